-- What stands in front of bytes is told in one way.
use Rattle.std.proofs.Common.{◌≡◌, ◌⊎◌, inl, inr, ℕ, ◌+◌, ◌≤◌, List, ◌++◌, length, take, drop, Result, Ok, Err, refl, sym, ap, subst, ◌∙◌, arith, length-append}
use Rattle.std.specs.Prelude.{⊤}
use Rattle.std.proofs.lemmas.List.{take_at, drop_at, take-append-le}
use Rattle.framing.specs.declared.first_item.FirstItem.{FirstItem}
use Rattle.framing.specs.declared.first_item.FirstItem.TheVariants.{Whole, Open, Bad}
use Rattle.framing.specs.FirstItems.{HasItem, IsFirstItem}
use Rattle.framing.specs.Items.{Announces, HasLead, IsRefused, IsWholeItem, LacksLead, StandsAs, WantsMore, by_header, by_lead, of_header, of_item, of_lead, open_bytes, whole_item, no_item}
use Rattle.framing.specs.Rules.{IsSound, Rule}

-- ---- the lead

-- longer bytes have the same lead
pub leads_longer : {E : Type 0} (rule : Rule E) (bytes more : List ℕ) → HasLead rule bytes → HasLead rule (bytes ++ more)
leads_longer rule bytes more l = record {
  long = omega (arith, l.long, length-append bytes more);
  passes = ap rule.check (take-append-le rule.lead bytes more l.long) ∙ l.passes;
}

pub lacks_longer : {E : Type 0} (rule : Rule E) (bytes more : List ℕ) (fault : E) → LacksLead rule bytes fault → LacksLead rule (bytes ++ more) fault
lacks_longer rule bytes more fault l = record {
  long = omega (arith, l.long, length-append bytes more);
  fails = ap rule.check (take-append-le rule.lead bytes more l.long) ∙ l.fails;
}

-- it passes, or fails for one reason
pub leads_not_lacks : {E : Type 0} (rule : Rule E) (bytes : List ℕ) (fault : E) → HasLead rule bytes → LacksLead rule bytes fault → ⊥
leads_not_lacks rule bytes fault l k = let e = sym l.passes ∙ k.fails in cc

pub lacks_once : {E : Type 0} (rule : Rule E) (bytes : List ℕ) (fault other : E) → LacksLead rule bytes fault → LacksLead rule bytes other → fault ≡ other
lacks_once rule bytes fault other l k = let e = sym l.fails ∙ k.fails in cc

-- one of both, where it is complete
which : {E : Type 0} (r : Result ⊤ E) → (r ≡ Ok tt) ⊎ ((fault : E) × (r ≡ Err fault))
which (Ok x) = inl refl
which (Err fault) = inr (fault, refl)

pub leads_or_lacks : {E : Type 0} (rule : Rule E) (bytes : List ℕ) → rule.lead ≤ length bytes → HasLead rule bytes ⊎ ((fault : E) × LacksLead rule bytes fault)
leads_or_lacks rule bytes long = elim (which (rule.check (take rule.lead bytes))) [
  | inl is ↦ inl (record { long = long; passes = is })
  | inr is ↦ inr (is.0, record { long = long; fails = is.1 })
]

-- ---- what is announced

-- longer bytes announce the same
pub announces_longer : {E : Type 0} (rule : Rule E) (bytes more : List ℕ) (what : Result ℕ E) → Announces rule bytes what → Announces rule (bytes ++ more) what
announces_longer rule bytes more what a = record {
  leads = leads_longer rule bytes more a.leads;
  header = omega (arith, a.header, length-append bytes more);
  announced = ap rule.total (take-append-le rule.header bytes more a.header) ∙ a.announced;
}

pub announces_once : {E : Type 0} (rule : Rule E) (bytes : List ℕ) (what other : Result ℕ E) → Announces rule bytes what → Announces rule bytes other → what ≡ other
announces_once rule bytes what other a b = sym a.announced ∙ b.announced

-- one length is announced
pub one_length : {E : Type 0} (rule : Rule E) (bytes : List ℕ) (n m : ℕ) → Announces rule bytes (Ok n) → Announces rule bytes (Ok m) → n ≡ m
one_length rule bytes n m a b = let e = announces_once rule bytes (Ok n) (Ok m) a b in cc

-- and no fault beside it
pub not_both : {E : Type 0} (rule : Rule E) (bytes : List ℕ) (n : ℕ) (fault : E) → Announces rule bytes (Ok n) → IsRefused rule bytes fault → ⊥
not_both rule bytes n fault a (by_lead l) = leads_not_lacks rule bytes fault a.leads l
not_both rule bytes n fault a (by_header b) = let e = announces_once rule bytes (Ok n) (Err fault) a b in cc

-- what is refused stays refused, whatever follows
pub refused_longer : {E : Type 0} (rule : Rule E) (bytes more : List ℕ) (fault : E) → IsRefused rule bytes fault → IsRefused rule (bytes ++ more) fault
refused_longer rule bytes more fault (by_lead l) = by_lead (lacks_longer rule bytes more fault l)
refused_longer rule bytes more fault (by_header a) = by_header (announces_longer rule bytes more (Err fault) a)

-- the length of what bytes begin with
pub record WholeSize {E : Type 0} (rule : Rule E) (bytes item rest : List ℕ) : Type 0 where
  pub announces : Announces rule bytes (Ok (length item))
  pub header : rule.header ≤ length item
  pub lead : rule.lead ≤ length item
  pub sum : length bytes ≡ length item + length rest

pub whole_size : {E : Type 0} (rule : Rule E) (bytes item rest : List ℕ) → IsWholeItem rule bytes item rest → WholeSize rule bytes item rest
whole_size rule bytes item rest w = record {
  announces = subst (λ (x : List ℕ). Announces rule x (Ok (length item))) (sym w.parts) (announces_longer rule item rest (Ok (length item)) w.is);
  header = w.is.header;
  lead = w.is.leads.long;
  sum = ap length w.parts ∙ length-append item rest;
}

-- so many bytes are an item, where a header announces their number
pub takes_item : {E : Type 0} (rule : Rule E) (bytes item rest : List ℕ) (n : ℕ) → IsSound rule → Announces rule bytes (Ok n) → bytes ≡ item ++ rest → length item ≡ n → IsWholeItem rule bytes item rest
takes_item rule bytes item rest n sound a is size =
    let least = sound.least (take rule.header bytes) n a.announced in
    let fits : rule.header ≤ length item = omega (arith, least, size) in
    let low : rule.lead ≤ length item = omega (arith, fits, sound.begins) in
    record {
      parts = is;
      is = record {
        leads = record { long = low; passes = ap rule.check (sym (take-append-le rule.lead item rest low) ∙ ap (take rule.lead) (sym is)) ∙ a.leads.passes };
        header = fits;
        announced = ap rule.total (sym (take-append-le rule.header item rest fits) ∙ ap (take rule.header) (sym is)) ∙ a.announced ∙ ap Ok (sym size);
      };
    }

-- ---- no two of the three

pub wants_not_whole : {E : Type 0} (rule : Rule E) (bytes item rest : List ℕ) (n : ℕ) → WantsMore rule bytes n → IsWholeItem rule bytes item rest → ⊥
wants_not_whole rule bytes item rest n (of_lead some is) w = let s = whole_size rule bytes item rest w in omega (arith, some, is, s.lead, s.sum)
wants_not_whole rule bytes item rest n (of_header some l is) w = let s = whole_size rule bytes item rest w in omega (arith, some, is, s.header, s.sum)
wants_not_whole rule bytes item rest n (of_item some a) w =
    let s = whole_size rule bytes item rest w in
    omega (arith, some, s.sum, one_length rule bytes (length bytes + n) (length item) a s.announces)

pub wants_not_refused : {E : Type 0} (rule : Rule E) (bytes : List ℕ) (n : ℕ) (fault : E) → WantsMore rule bytes n → IsRefused rule bytes fault → ⊥
wants_not_refused rule bytes n fault (of_lead some is) (by_lead k) = omega (arith, some, is, k.long)
wants_not_refused rule bytes n fault (of_lead some is) (by_header r) = omega (arith, some, is, r.leads.long)
wants_not_refused rule bytes n fault (of_header some l is) (by_lead k) = leads_not_lacks rule bytes fault l k
wants_not_refused rule bytes n fault (of_header some l is) (by_header r) = omega (arith, some, is, r.header)
wants_not_refused rule bytes n fault (of_item some a) r = not_both rule bytes (length bytes + n) fault a r

pub refused_not_whole : {E : Type 0} (rule : Rule E) (bytes item rest : List ℕ) (fault : E) → IsRefused rule bytes fault → IsWholeItem rule bytes item rest → ⊥
refused_not_whole rule bytes item rest fault r w = not_both rule bytes (length item) fault (whole_size rule bytes item rest w).announces r

-- ---- each of them in one way

pub wants_once : {E : Type 0} (rule : Rule E) (bytes : List ℕ) (n m : ℕ) → WantsMore rule bytes n → WantsMore rule bytes m → n ≡ m
wants_once rule bytes n m (of_lead some is) (of_lead also at) = omega (arith, is, at)
wants_once rule bytes n m (of_lead some is) (of_header also k at) = absurd (omega (arith, some, is, k.long))
wants_once rule bytes n m (of_lead some is) (of_item also b) = absurd (omega (arith, some, is, b.leads.long))
wants_once rule bytes n m (of_header some l is) (of_lead also at) = absurd (omega (arith, also, at, l.long))
wants_once rule bytes n m (of_header some l is) (of_header also k at) = omega (arith, is, at)
wants_once rule bytes n m (of_header some l is) (of_item also b) = absurd (omega (arith, some, is, b.header))
wants_once rule bytes n m (of_item some a) (of_lead also at) = absurd (omega (arith, also, at, a.leads.long))
wants_once rule bytes n m (of_item some a) (of_header also k at) = absurd (omega (arith, also, at, a.header))
wants_once rule bytes n m (of_item some a) (of_item also b) = omega (arith, one_length rule bytes (length bytes + n) (length bytes + m) a b)

pub refused_once : {E : Type 0} (rule : Rule E) (bytes : List ℕ) (fault other : E) → IsRefused rule bytes fault → IsRefused rule bytes other → fault ≡ other
refused_once rule bytes fault other (by_lead l) (by_lead k) = lacks_once rule bytes fault other l k
refused_once rule bytes fault other (by_lead l) (by_header b) = absurd (leads_not_lacks rule bytes fault b.leads l)
refused_once rule bytes fault other (by_header a) (by_lead k) = absurd (leads_not_lacks rule bytes other a.leads k)
refused_once rule bytes fault other (by_header a) (by_header b) = let e = announces_once rule bytes (Err fault) (Err other) a b in cc

pub one_item : {E : Type 0} (rule : Rule E) (bytes item other rest after : List ℕ) → IsWholeItem rule bytes item rest → IsWholeItem rule bytes other after → (item ≡ other) × (rest ≡ after)
one_item rule bytes item other rest after w v =
    let size = one_length rule bytes (length item) (length other) (whole_size rule bytes item rest w).announces (whole_size rule bytes other after v).announces in
    let is : item ++ rest ≡ other ++ after = sym w.parts ∙ v.parts in (
      sym (take_at item rest (length item) refl) ∙ ap (take (length item)) is ∙ take_at other after (length item) (sym size),
      sym (drop_at item rest (length item) refl) ∙ ap (drop (length item)) is ∙ drop_at other after (length item) (sym size),
    )

-- ---- what is told is all that holds

pub told_whole : {E : Type 0} (rule : Rule E) (bytes : List ℕ) (told : FirstItem E) → IsFirstItem rule bytes told → (item rest : List ℕ) → IsWholeItem rule bytes item rest → HasItem item rest told
told_whole rule bytes (Whole x after) is item rest w = one_item rule bytes x.now item after.now rest is w
told_whole rule bytes (Open n) is item rest w = wants_not_whole rule bytes item rest n is w
told_whole rule bytes (Bad f) is item rest w = refused_not_whole rule bytes item rest f is w

pub told_open : {E : Type 0} (rule : Rule E) (bytes : List ℕ) (told : FirstItem E) → IsFirstItem rule bytes told → (n : ℕ) → WantsMore rule bytes n → told ≡ Open n
told_open rule bytes (Whole x after) is n o = absurd (wants_not_whole rule bytes x.now after.now n o is)
told_open rule bytes (Open m) is n o = ap Open (wants_once rule bytes m n is o)
told_open rule bytes (Bad f) is n o = absurd (wants_not_refused rule bytes n f o is)

pub told_bad : {E : Type 0} (rule : Rule E) (bytes : List ℕ) (told : FirstItem E) → IsFirstItem rule bytes told → (fault : E) → IsRefused rule bytes fault → told ≡ Bad fault
told_bad rule bytes (Whole x after) is fault r = absurd (refused_not_whole rule bytes x.now after.now fault r is)
told_bad rule bytes (Open n) is fault r = absurd (wants_not_refused rule bytes n fault is r)
told_bad rule bytes (Bad f) is fault r = ap Bad (refused_once rule bytes f fault is r)

pub stands : {E : Type 0} (rule : Rule E) (bytes : List ℕ) (told : FirstItem E) → IsFirstItem rule bytes told → StandsAs rule bytes
stands rule bytes (Whole x after) is = whole_item x.now after.now is
stands rule bytes (Open n) is = open_bytes n is
stands rule bytes (Bad f) is = no_item f is
