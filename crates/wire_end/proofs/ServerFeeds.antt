-- What a server made of bytes that were there.
use Rattle.std.proofs.Common.{◌≡◌, ℕ, ◌+◌, List, [], ◌∷◌, ◌++◌, length, take, drop, Bool, false, true, ap, arith, refl, sym, subst, ◌∙◌, take-append-drop, length-append}
use Rattle.std.specs.Prelude.{nat_lt, if◌then◌else◌}
use Rattle.std.proofs.lemmas.Bool.Decides.{nat_tests}
use Rattle.std.proofs.Math.Seq.{drop-length}
use Rattle.wire_stream.specs.{StandsAt}
use Rattle.wire_stream.specs.declared.reader_state.ReaderState.{ReaderState}
use Rattle.wire_stream.specs.declared.reader_state.ReaderState.TheVariants.{Bad, Need, Ready}
use Rattle.wire_peer.specs.{ServerView, TakesBytes}
use Rattle.wire_peer.specs.Servers.{holding}
use Rattle.wire_peer.specs.declared.server_state.ServerState.TheVariants.{Open}
use Rattle.wire_peer.proofs.Lemmas.{server_own}
use Rattle.wire_end.specs.NextRequests.{TakesMore}
use Rattle.wire_end.specs.ServerFeeds.{IsFedAs, standing}

none_more : (n : ℕ) → nat_lt n n ≡ false
none_more n = grind (arith, nat_tests)

one_more : (n m : ℕ) → m ≡ n + 1 → nat_lt n m ≡ true
one_more n m e = grind (arith, nat_tests)

abbrev ready_if : Bool → ReaderState
ready_if more = if more then Ready else Need

-- where the server stands is what the bytes were found to be
stands_as : (found : ReaderState) (s : ServerView) (bytes : List ℕ) → s.state ≡ Open
    → standing (holding s bytes found).state (length s.waiting) (length (holding s bytes found).waiting) ≡ found
stands_as Need s bytes is =
    ap (λ state. standing state (length s.waiting) (length s.waiting)) is
    ∙ ap ready_if (none_more (length s.waiting))
stands_as Ready s bytes is =
    ap (λ state. standing state (length s.waiting) (length (s.waiting ++ bytes ∷ []))) is
    ∙ ap ready_if (one_more (length s.waiting) (length (s.waiting ++ bytes ∷ [])) (length-append s.waiting (bytes ∷ [])))
stands_as (Bad fault) s bytes is = refl

pub fed_as : (s s' : ServerView) (there : List ℕ) (n : ℕ) (found : ReaderState) → TakesMore s
    → TakesBytes s there n s'
    → found ≡ standing s'.state (length s.waiting) (length s'.waiting)
    → IsFedAs found s there s' (drop n there)
fed_as s s' there n found more t is = record {
  bytes = take n there;
  takes = record { is_open = more.0; has_room = more.1; takes = server_own s there n s' t };
  parts = sym (take-append-drop n there);
  stands = subst (StandsAt s.limit (s.held ++ take n there)) (sym same)
      (subst (λ (b : List ℕ). StandsAt s.limit b t.found) t.fed.held t.fed.state);
  is = t.is ∙ ap (λ (b : List ℕ). holding s b t.found) t.fed.held
      ∙ ap (holding s (s.held ++ take n there)) (sym same);
  all = λ need. ap (λ (k : ℕ). drop k there) (t.fed.all (sym same ∙ need)) ∙ drop-length there;
}
  where
    same : found ≡ t.found
    same = is ∙ ap (λ (z : ServerView). standing z.state (length s.waiting) (length z.waiting)) t.is
        ∙ stands_as t.found s t.bytes more.0

-- what more is held by a server that stood with some bytes is held by one that stood with none
pub holding_on : (found : ReaderState) (s : ServerView) (held bytes : List ℕ)
    → holding (record s { held = held }) bytes found ≡ holding s bytes found
holding_on Need s held bytes = refl
holding_on Ready s held bytes = refl
holding_on (Bad fault) s held bytes = refl

-- the same of what is there, by what it is known as
pub fed_here : (found found' : ReaderState) (s s' : ServerView) (out there left : List ℕ) (n : ℕ)
    → IsFedAs found s out s' (drop n out) → out ≡ there → left ≡ drop n there → found ≡ found'
    → IsFedAs found' s there s' left
fed_here found found' s s' out there left n f is rest same =
    subst (λ (z : ReaderState). IsFedAs z s there s' left) same
    (subst (IsFedAs found s there s') (sym rest) (subst (λ (z : List ℕ). IsFedAs found s z s' (drop n z)) is f))
