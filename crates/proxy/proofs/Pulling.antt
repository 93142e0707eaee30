-- What a call that pulls bytes did.
use Rattle.std.proofs.Common.{◌≡◌, ◌∙◌, ◌≤◌, ℕ, List, [], ◌∷◌, ◌++◌, Option, Result, Ok, Err, IfOk, OnOk, ap, append-nil, length, refl, subst, sym, take}
use Rattle.std.specs.Prelude.{⊤}
use Rattle.std.specs.Io.KnownBytes.{Appends}
use Rattle.std.proofs.lemmas.List.{take-append-le}
use Rattle.wire_stream.specs.{bytes_moved}
use Rattle.wire_stream.specs.declared.link.LinkFault.{LinkFault}
use Rattle.wire_stream.specs.declared.link.Moved.{Moved}
use Rattle.proxy.specs.Holding.{Comes, Flows, Frees, Gives, HeldView, HoldMoves, Pulls}

module _ {L : Type 0} (received : L → Option (List ℕ)) where
  -- the link moved no byte
  pub pulled_later : (old mid new : HeldView L) (bytes : List ℕ) → mid ≡ old → bytes ≡ [] → Appends (received mid.link) (received new.link) bytes
      → new.owed ≡ mid.owed → new.rest ≡ mid.rest → new.left ≡ mid.left → Pulls received [] old new
  pulled_later old mid new bytes same none came owed rest left =
      let from : Appends (received old.link) (received new.link) [] =
      subst (λ (v : HeldView L). Appends (received v.link) (received new.link) []) same (subst (λ (b : List ℕ). Appends (received mid.link) (received new.link) b) none came) in
      record {
        acts = Comes [] ∷ [];
        run = (new, (from, owed ∙ ap (λ (v : HeldView L). v.owed) same, rest ∙ ap (λ (v : HeldView L). v.rest) same ∙ sym (append-nil old.rest), left ∙ ap (λ (v : HeldView L). v.left) same), refl);
        gives = refl;
      }

  -- it told its end, so that what is held is given from then on
  pub pulled_end : (old mid last new : HeldView L) (bytes : List ℕ) → mid ≡ old → bytes ≡ [] → Appends (received mid.link) (received last.link) bytes
      → last.owed ≡ mid.owed → last.rest ≡ mid.rest → last.left ≡ mid.left → HoldMoves received (Frees last.rest) last new → Pulls received [] old new
  pulled_end old mid last new bytes same none came owed rest left frees =
      let from : Appends (received old.link) (received last.link) [] =
      subst (λ (v : HeldView L). Appends (received v.link) (received last.link) []) same (subst (λ (b : List ℕ). Appends (received mid.link) (received last.link) b) none came) in
      record {
        acts = Comes [] ∷ Frees last.rest ∷ [];
        run = (last, (from, owed ∙ ap (λ (v : HeldView L). v.owed) same, rest ∙ ap (λ (v : HeldView L). v.rest) same ∙ sym (append-nil old.rest), left ∙ ap (λ (v : HeldView L). v.left) same), (new, frees, refl));
        gives = refl;
      }

  -- a piece came, and was appended if there was memory
  pub pulled_piece : {E : Type 0} (r : Result ⊤ E) (old mid new : HeldView L) (link : L) (came_bytes bytes : List ℕ) → mid ≡ old → came_bytes ≡ bytes
      → Appends (received mid.link) (received link) came_bytes → new.link ≡ link → new.owed ≡ mid.owed → OnOk r (new.rest ≡ mid.rest ++ bytes) → new.left ≡ mid.left
      → OnOk r (Pulls received [] old new)
  pulled_piece (Err e) old mid new link came_bytes bytes same is came over owed rest left = tt
  pulled_piece (Ok u) old mid new link came_bytes bytes same is came over owed rest left =
      let from : Appends (received old.link) (received new.link) bytes =
      subst (λ (v : HeldView L). Appends (received v.link) (received new.link) bytes) same
      (subst (λ (l : L). Appends (received mid.link) (received l) bytes) (sym over) (subst (λ (b : List ℕ). Appends (received mid.link) (received link) b) is came)) in
      record {
        acts = Comes bytes ∷ [];
        run = (new, (from, owed ∙ ap (λ (v : HeldView L). v.owed) same, rest ∙ ap (λ (v : HeldView L). v.rest ++ bytes) same, left ∙ ap (λ (v : HeldView L). v.left) same), refl);
        gives = refl;
      }

  -- what is held is given from now on
  pub pulled_free : (old new : HeldView L) → HoldMoves received (Frees old.rest) old new → Pulls received [] old new
  pulled_free old new frees = record { acts = Frees old.rest ∷ []; run = (new, frees, refl); gives = refl }

  -- bytes that may be given were given, into the front of a buffer
  pub pulled_given : (old new : HeldView L) (buffer tail : List ℕ) (n : ℕ) → n ≤ length buffer → HoldMoves received (Gives (take n buffer)) old new
      → Pulls received (take n (buffer ++ tail)) old new
  pulled_given old new buffer tail n le gives = record { acts = Gives (take n buffer) ∷ []; run = (new, gives, refl); gives = append-nil (take n buffer) ∙ sym (take-append-le n buffer tail le) }

  -- bytes were given as they came
  pub pulled_flow : (r : Result Moved LinkFault) (old new : HeldView L) (buffer tail : List ℕ) → IfOk r (λ moved. bytes_moved moved ≤ length buffer)
      → IfOk r (λ moved. HoldMoves received (Flows (take (bytes_moved moved) buffer)) old new)
      → IfOk r (λ moved. Pulls received (take (bytes_moved moved) (buffer ++ tail)) old new)
  pulled_flow (Err fault) old new buffer tail le flows = tt
  pulled_flow (Ok moved) old new buffer tail le flows = record {
    acts = Flows (take (bytes_moved moved) buffer) ∷ [];
    run = (new, flows, refl);
    gives = append-nil (take (bytes_moved moved) buffer) ∙ sym (take-append-le (bytes_moved moved) buffer tail le);
  }
