-- The parts that were found, put one behind another.
use Rattle.std.proofs.Common.{◌≡◌, ℕ, ◌+◌, ◌<◌, ◌≤◌, Bool, true, false, List, [], ◌∷◌, ◌++◌, None, get_or, length, take, drop, refl, sym, ap, subst, ◌∙◌, arith, length-append}
use Rattle.bson_elem.specs.{Spells, Tree}
use Rattle.bson_stream.specs.declared.gap.Find.TheVariants as find
use Rattle.bson_stream.specs.declared.gap.Gap.{Gap}
use Rattle.bson_stream.specs.declared.reader_state.ReadRefusal.{ReadRefusal}
use Rattle.bson_stream.specs.declared.reader_state.ReadRefusal.TheVariants.{OutOfMemory, TooFar, TooLong}
use Rattle.bson_stream.specs.declared.salvage.SalvagedPart.{SalvagedPart}
use Rattle.bson_stream.specs.declared.salvage.SalvagedPart.TheVariants as part
use Rattle.bson_stream.specs.Salvage.{Part, a_document, a_gap}
use Rattle.bson_stream.specs.SalvagedParts.{ArePartsOf, FindsParts, HaveParts, IsPart, IsUnsalvaged, ToldParts}
use Rattle.bson_stream.specs.Salvagers.{IsFound, IsNotFed, IsSettled, Salvaging, SoFar}
use Rattle.bson_stream.proofs.Gatherings.{Piece, split_at, told, told_all, up_to}
use Rattle.bson_stream.proofs.Salvagings.{all_told, ended_now}

parts-push : (found : List SalvagedPart) (ps : List Part) (x : SalvagedPart) (p : Part) → ArePartsOf found ps → IsPart x p → ArePartsOf (found ++ x ∷ []) (ps ++ p ∷ [])
parts-push [] [] x p each is = (is, tt)
parts-push [] (q ∷ ps) x p each is = absurd each
parts-push (y ∷ found) [] x p each is = absurd each
parts-push (y ∷ found) (q ∷ ps) x p each is = (each.0, parts-push found ps x p each.1 is)

-- nothing was told
pub none_told : (s : Salvaging) → SoFar false [] [] s → ToldParts false [] s []
none_told s so = ([], so, tt)

-- a piece was fed
pub told_fed : (fed piece : List ℕ) (s new : Salvaging) (found : List SalvagedPart) → ((ps : List Part) → SoFar false fed ps s → SoFar false (fed ++ piece) ps new)
    → ToldParts false fed s found → ToldParts false (fed ++ piece) new found
told_fed fed piece s new found on (ps, so, are) = (ps, on ps so, are)

-- nothing more was found
pub told_same : (ended : Bool) (fed : List ℕ) (s new : Salvaging) (found : List SalvagedPart) → ((ps : List Part) → SoFar ended fed ps s → IsFound ended fed ps new find.Nothing)
    → ToldParts ended fed s found → ToldParts ended fed new found × IsSettled ended new
told_same ended fed s new found on (ps, so, are) = ((ps, (on ps so).0, are), (on ps so).1)

-- a gap was found
pub told_gap : (ended : Bool) (fed : List ℕ) (s new : Salvaging) (found : List SalvagedPart) (g : Gap) → ((ps : List Part) → SoFar ended fed ps s → IsFound ended fed ps new (find.Gap g))
    → ToldParts ended fed s found → ToldParts ended fed new (found ++ part.Gap g ∷ [])
told_gap ended fed s new found g on (ps, so, are) = (ps ++ a_gap g ∷ [], on ps so, parts-push found ps (part.Gap g) (a_gap g) are refl)

-- a document was found and let go
pub told_document : (ended : Bool) (fed : List ℕ) (s mid new : Salvaging) (found : List SalvagedPart) (at len : ℕ) (canonical : Bool) (bytes : List ℕ)
    → ((ps : List Part) → SoFar ended fed ps s → IsFound ended fed ps mid (find.Document len canonical)) → at ≡ mid.start → bytes ≡ take len mid.held
    → ((ps : List Part) (t : Tree) → SoFar ended fed ps mid → mid.gap ≡ None → len ≤ mid.limit → Spells t (take len mid.held) → SoFar ended fed (ps ++ a_document mid.start t ∷ []) new)
    → ToldParts ended fed s found → ToldParts ended fed new (found ++ part.Document at bytes ∷ [])
told_document ended fed s mid new found at len canonical bytes on where_at same gone (ps, so, are) =
    let is = on ps so in
    let front = is.2 in
    let spelled = front.2 in (
      ps ++ a_document mid.start spelled.0 ∷ [],
      gone ps spelled.0 is.0 is.1 front.1 spelled.1,
      parts-push found ps (part.Document at bytes) (a_document mid.start spelled.0) are (where_at, subst (Spells spelled.0) (sym same) spelled.1),
    )

-- all of it
pub all_found : (limit : ℕ) (fed : List ℕ) (s : Salvaging) (found : List SalvagedPart) → ToldParts true fed s found → IsSettled true s → s.limit ≡ limit → HaveParts limit fed found
all_found limit fed s found (ps, so, are) settled same = (ps, all_told limit fed ps s so settled same, are)

-- no more bytes come
pub told_ended : (fed : List ℕ) (s : Salvaging) (found : List SalvagedPart) → ToldParts false fed s found → ToldParts true fed s found
told_ended fed s found (ps, so, are) = (ps, ended_now fed ps s so, are)

-- ---- piece by piece

pub piece_taken : (pieces : List Piece) (i : ℕ) (d : Piece) (old fed new : Salvaging) (found more : List SalvagedPart) → i < length pieces → ToldParts false (told (take i pieces)) old found
    → ((parts : List Part) → SoFar false (told (take i pieces)) parts old → SoFar false (told (take i pieces) ++ (get_or pieces i d).now) parts fed) → FindsParts false fed found new more
    → ToldParts false (told (take (i + 1) pieces)) new more
piece_taken pieces i d old fed new found more lt before on finds =
    subst (λ (b : List ℕ). ToldParts false b new more) (sym (up_to pieces i d lt))
    (finds.0 (told (take i pieces) ++ (get_or pieces i d).now) (told_fed (told (take i pieces)) (get_or pieces i d).now old fed found on before)).0

pub pieces_ended : (limit : ℕ) (pieces : List Piece) (i : ℕ) (old new : Salvaging) (found more : List SalvagedPart) → length pieces ≤ i → ToldParts false (told (take i pieces)) old found
    → FindsParts true old found new more → old.limit ≡ limit → HaveParts limit (told pieces) more
pieces_ended limit pieces i old new found more le before finds same =
    let ended : ToldParts true (told pieces) old found = told_ended (told pieces) old found (subst (λ (b : List ℕ). ToldParts false b old found) (told_all pieces i le) before) in
    let last = finds.0 (told pieces) ended in
    all_found limit (told pieces) new more last.0 last.1 (finds.1 ∙ same)

-- ---- why they weren't found

pub out_of_memory : (bytes : List ℕ) (e : ReadRefusal) → e ≡ OutOfMemory → IsUnsalvaged bytes e
out_of_memory bytes e is = subst (IsUnsalvaged bytes) (sym is) tt

pub piece_not_fed : (pieces : List Piece) (i : ℕ) (d : Piece) (s : Salvaging) (found : List SalvagedPart) (e : ReadRefusal) → i < length pieces → ToldParts false (told (take i pieces)) s found → IsNotFed s (get_or pieces i d).now e → IsUnsalvaged (told pieces) e
piece_not_fed pieces i d s found OutOfMemory lt before refused = tt
piece_not_fed pieces i d s found TooLong lt before refused = absurd refused
piece_not_fed pieces i d s found TooFar lt (ps, so, are) refused =
    omega (arith, refused, so.size, ap length (up_to pieces i d lt), length-append (told (take i pieces)) (get_or pieces i d).now, ap length (split_at pieces (i + 1)), length-append (told (take (i + 1) pieces)) (told (drop (i + 1) pieces)))
