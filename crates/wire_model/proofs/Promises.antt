-- What holds in every state of the machine that its steps reach.
use Rattle.std.proofs.Common.{◌≡◌, ℕ, Bool, true, false, [], refl, sym, ◌∙◌, ap, subst, Some, None, inl, inr}
use Rattle.std.specs.Prelude.{slice_get, if◌then◌else◌}
use Rattle.std.proofs.lemmas.Option.{none-some, same_Some}
use Rattle.wire_peer.specs.{Does, LogEntry, Stops, are_left}
use Rattle.wire_model.specs.Facts.{DoneIsWhole, EntryHasOneCall, HoldsBeginning, MuteIsNeverDone, PendingHoldsBeginning, SilentHoldsNone}
use Rattle.wire_model.specs.Machines.{Place, OnWay, Waiting, Answered, Mute, Never, Pending, Done, Lost, Machine, asked_as, new_call, stranger, with_part, with_new, Owes, empty}
use Rattle.wire_model.specs.Machines as machine
use Rattle.wire_model.proofs.Machines.{ok_new, ok_written}
use Rattle.wire_model.proofs.Entries.{new_ok, stranger_ok, ok_arrived, given_ok, ok_answered}
use Rattle.wire_model.proofs.Losses.{ok_client_gone, ok_server_gone, ok_mute_gone}
pub use Rattle.wire_model.proofs.Machines.{CallOk, Early, Held, HoldsAt, Later, Ok, holds_as, not_onway, not_waiting, ours_here, still_pending, waiting_early}
pub use Rattle.wire_model.proofs.Entries.{owes_all, undone}
pub use Rattle.wire_model.proofs.Losses.{gone_here, never_entry_from, never_entry_to}

-- only an honest client issues
issuer : {H : Type 0} (m : Machine H) (c : ℕ) → Ok m → m.client_lives c ≡ true → m.raw c ≡ false
issuer m c ok l = by (m.raw c) refl
  where
    by : (b : Bool) → m.raw c ≡ b → m.raw c ≡ false
    by false e = e
    by true e = absurd (let no : true ≡ false = sym l ∙ ok.raws c e in cc)

module _ (H : Type 0) (does : Does H) (stops : Stops H) where
  ok_step : (m n : Machine H) → Ok m → machine.Step H does stops m n → Ok n
  ok_step m n ok (machine.issue c kind payload l e) = rw e (ok_new m (new_call c (asked_as kind payload)) (new_ok (with_new m (new_call c (asked_as kind payload))) c (asked_as kind payload) (issuer m c ok l) l) (λ e is. not_onway (new_call c (asked_as kind payload)) e refl is) ok)
  ok_step m n ok (machine.arrive i x l at on first e) = rw e (ok_arrived m i x at on ok)
  ok_step m n ok (machine.answer i x answers h at waits d e) = rw e (ok_answered m i x answers h at waits d.1 ok)
  ok_step m n ok (machine.log_lost i x answers h at waits loud d e) = rw e (ok_mute_gone m i x (Some answers) h at waits (inr (owes_all x.asked answers d.1)) ok)
  ok_step m n ok (machine.stop i x why h at waits s e) = rw e (ok_mute_gone m i x None h at waits (inl refl) ok)
  ok_step m n ok (machine.give_back i e' x due l at first e) = rw e (ok_written m i x (with_part x due.owes.0 (are_left due.owes.1)) at (λ e is. is) (λ e is. is) (given_ok m x e' due l ok.raws (ok.each i x at) due.owes.0 due.owes.1 due.owes.2) ok)
  ok_step m n ok (machine.client_lost c e) = rw e (ok_client_gone m c ok)
  ok_step m n ok (machine.server_lost c e) = rw e (ok_server_gone m c ok)
  ok_step m n ok (machine.appear c a raw l e) = rw e (ok_new m (stranger c a) (stranger_ok (with_new m (stranger c a)) c a raw) (λ e is. not_waiting (stranger c a) e refl is) ok)

  -- it holds in every state that is reached
  pub ok_steps : (m n : Machine H) → Ok m → machine.Steps H does stops m n → Ok n
  ok_steps m n ok machine.stay = ok
  ok_steps m n ok (machine.go {n = mid} ss s) = ok_step mid n (ok_steps m mid ok ss) s

pub ok_empty : {H : Type 0} (h : H) (raw : ℕ → Bool) → Ok (empty h raw)
ok_empty h raw = record {
  each = λ i x g. absurd (none-some x g);
  unshared = λ i j e x y g g' a b. absurd (none-some x g);
  named = λ e en g. absurd (none-some en g);
  answers = λ e en g. absurd (none-some en g);
  raws = λ c e. ap (λ b. if b then false else true) e;
}

-- ---- what follows
pub done_whole : {H : Type 0} (m : Machine H) → Ok m → DoneIsWhole m
done_whole m ok i x at d = by x.place refl
  where
    o : CallOk m x
    o = ok.each i x at

    by : (p : Place) → x.place ≡ p → (e : ℕ) × (en : LogEntry) × (x.place ≡ Answered e) × (slice_get m.log e ≡ Some en) × (en.connection ≡ x.connection) × (en.payload ≡ x.asked.payload) × (en.answers ≡ Some x.parts)
    by OnWay e = absurd ((holds_as m x OnWay o e).1 d)
    by Waiting e = absurd ((holds_as m x Waiting o e).1 d)
    by (Mute n) e = absurd ((holds_as m x (Mute n) o e).1 d)
    by Never e = absurd ((holds_as m x Never o e).1 d)
    by (Answered n) e =
        let h = holds_as m x (Answered n) o e in
        let q = o.entry n (inl e) in
        let same : q.0 ≡ h.0 = same_Some q.0 h.0 (sym q.1 ∙ h.1) in
        elim h.2 [
          | inl w ↦ (n, h.0, e, h.1, rw (← same) q.2, rw (← same) q.3, w.1)
          | inr w ↦ absurd (w.0 d)
        ]

pub one_call : {H : Type 0} (m : Machine H) → Ok m → EntryHasOneCall m
one_call m ok = (
  ok.unshared,
  λ e en at.
      let p = ok.named e en at in
      let q = (ok.each p.0 p.1 p.2).entry e p.3 in
      let same : q.0 ≡ en = same_Some q.0 en (sym q.1 ∙ at) in
      (p.0, p.1, p.2, p.3, ap (λ (z : LogEntry). z.connection) (sym same) ∙ q.2, ap (λ (z : LogEntry). z.payload) (sym same) ∙ q.3),
)

pub silent_none : {H : Type 0} (m : Machine H) → Ok m → SilentHoldsNone m
silent_none m ok i x at mine s = (o.quiet s mine, by x.place refl)
  where
    o : CallOk m x
    o = ok.each i x at

    by : (p : Place) → x.place ≡ p → x.parts ≡ []
    by OnWay e = (holds_as m x OnWay o e).0
    by Waiting e = (holds_as m x Waiting o e).0
    by (Mute n) e = (holds_as m x (Mute n) o e).0
    by Never e = (holds_as m x Never o e).0
    by (Answered n) e = absurd (let no : true ≡ false = sym s ∙ o.answered n e in cc)

pub beginnings : {H : Type 0} (m : Machine H) → Ok m → PendingHoldsBeginning m
beginnings m ok i x at how = by x.place refl
  where
    o : CallOk m x
    o = ok.each i x at

    undone : x.state ≡ Done → ⊥
    undone d = elim how [ inl p ↦ (let no : Done ≡ Pending = sym d ∙ p in cc) | inr l ↦ (let no : Done ≡ Lost = sym d ∙ l in cc) ]

    none_of : (p : Place) → x.place ≡ p → ((e : ℕ) → p ≡ Answered e → ⊥) → ((e : ℕ) → p ≡ Mute e → ⊥) → x.parts ≡ [] → HoldsBeginning m x
    none_of p e na nm none = inr (none, λ n en is g. absurd (elim is [ inl q ↦ na n (sym e ∙ q) | inr q ↦ nm n (sym e ∙ q) ]))

    by : (p : Place) → x.place ≡ p → HoldsBeginning m x
    by OnWay e = none_of OnWay e (λ n q. cc) (λ n q. cc) (holds_as m x OnWay o e).0
    by Waiting e = none_of Waiting e (λ n q. cc) (λ n q. cc) (holds_as m x Waiting o e).0
    by Never e = none_of Never e (λ n q. cc) (λ n q. cc) (holds_as m x Never o e).0
    by (Answered n) e = let h = holds_as m x (Answered n) o e in elim h.2 [ inl w ↦ absurd (undone w.0) | inr w ↦ inl (n, h.0, inl e, h.1, w.1) ]
    by (Mute n) e =
        let none : x.parts ≡ [] = (holds_as m x (Mute n) o e).0 in
        let q = o.entry n (inr e) in
        elim (ok.answers n q.0 q.1) [
          | inl failed ↦ inr (
            none,
            λ n' en is g.
                let same : n ≡ n' = (elim is [ inl a ↦ absurd (let no : Mute n ≡ Answered n' = sym e ∙ a in cc) | inr b ↦ (let yes : Mute n ≡ Mute n' = sym e ∙ b in cc) ]) in
                let entries : q.0 ≡ en = same_Some q.0 en (sym q.1 ∙ ap (slice_get m.log) same ∙ g) in
                ap (λ (z : LogEntry). z.answers) (sym entries) ∙ failed,
          )
          | inr owes ↦ inl (n, q.0, inr e, q.1, subst (λ ps. Owes q.0.answers ps) (sym none) owes)
        ]

pub never_done : {H : Type 0} (m : Machine H) → Ok m → MuteIsNeverDone m
never_done m ok i x at (inl p) d = (holds_as m x (Mute p.0) (ok.each i x at) p.1).1 d
never_done m ok i x at (inr p) d = (holds_as m x Never (ok.each i x at) p).1 d
