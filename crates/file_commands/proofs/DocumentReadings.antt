-- Documents, as items of one kind.
use Rattle.std.proofs.Common.{◌≡◌, false, true, inl, inr, ◌+◌, ◌-◌, [], ◌++◌, ℕ, List, Option, None, Some, length, take, drop, ap, ◌∙◌, append_assoc, refl, subst, sym}
use Rattle.std.specs.Option.{is_some}
use Rattle.bson_elem.specs.{Spells, Tree}
use Rattle.bson_stream.specs.declared.reader_state.Fed.{Fed}
use Rattle.bson_stream.specs.{Feeds, IsInFront, IsOpen, Reading}
use Rattle.bson_stream.proofs.Lemmas.{fault_longer, nothing_open, open_front, spelled_not_open}
use Rattle.file_commands.specs.declared.walk.Stop.{Stop}
use Rattle.file_commands.specs.declared.walk.Stop.TheVariants as stop
use Rattle.file_commands.specs.Documents.{TextRule, documents_of}
use Rattle.file_commands.specs.DocumentWalk.{IsWrittenOrStops}
use Rattle.file_commands.specs.InputFault.{input_fault_line}
use Rattle.file_commands.specs.Items.{ItemKind}
use Rattle.file_commands.specs.ItemWalk.{GoesOverItems, ItemReading, ItemsWritten}
use Rattle.file_commands.proofs.ItemReadings.{IsKind, item_fed, item_kept, item_released}

module _ (rule : TextRule) where
  open_not_bad : (start : ℕ) (bytes line : List ℕ) → IsOpen bytes → ItemKind.is_bad (documents_of rule) start bytes line → ⊥
  open_not_bad start bytes line o (inl (t, front, after, s, is, none, told)) = spelled_not_open front (t, s) (open_front front after (subst IsOpen is o))
  open_not_bad start bytes line o (inr (f, bad, told)) = bad.decided o

  bad_longer : (start : ℕ) (bytes more line : List ℕ) → ItemKind.is_bad (documents_of rule) start bytes line → ItemKind.is_bad (documents_of rule) start (bytes ++ more) line
  bad_longer start bytes more line (inl (t, front, after, s, is, none, told)) = inl (t, front, after ++ more, s, ap (λ (x : List ℕ). x ++ more) is ∙ append_assoc front after more, none, told)
  bad_longer start bytes more line (inr (f, bad, told)) =
      inr (f, record { decided = λ o. bad.decided (open_front bytes more o); own = bad.own; first = fault_longer bytes more bad.own bad.decided bad.first; told = bad.told }, told)

  pub documents_kind : IsKind (documents_of rule)
  documents_kind = record {
    nothing_open = nothing_open;
    open_not_bad = open_not_bad;
    open_not_item = λ front rest o is. spelled_not_open front is (open_front front rest o);
    bad_longer = bad_longer;
  }

  -- a reader took the front of the rest
  pub fed_on : (bytes : List ℕ) (base : ℕ) (old new : Reading) (rest : List ℕ) (fed : Fed) (from to : Option (List ℕ)) → ItemsWritten (documents_of rule) bytes base old.start (old.held ++ rest) from to → Feeds old rest new fed
      → ItemsWritten (documents_of rule) bytes base new.start (new.held ++ take (length rest - fed.taken) (drop fed.taken rest)) from to
  fed_on bytes base old new rest fed from to w f =
      let left = new.held ++ take (length rest - fed.taken) (drop fed.taken rest) in
      subst (λ (n : ℕ). ItemsWritten (documents_of rule) bytes base n left from to) (sym f.start) (item_fed (documents_of rule) fed.taken bytes old.held new.held rest base old.start from to w f.held)

  -- nothing more is written behind a document that was met, since it has no text or memory ran out
  pub stopped_at : (old new : ItemReading) (piece document after : List ℕ) (t : Tree) (s : Option Stop) (from mid to : Option (List ℕ)) → new.limit ≡ old.limit
      → ItemsWritten (documents_of rule) (old.held ++ piece) old.start new.start (document ++ after) from mid → Spells t document → IsWrittenOrStops (rule new.start t) new.start s mid to → is_some s ≡ true
      → GoesOverItems (λ (limit : ℕ). documents_of rule) old piece new s from to
  stopped_at old new piece document after t None from mid to limit w spelled told some = cc some
  stopped_at old new piece document after t (Some (stop.Fault f)) from mid to limit w spelled ((none, keeps), is) some = record {
    limit = limit;
    rest = document ++ after;
    written = item_kept (documents_of rule) _ _ _ _ _ _ _ w keeps;
    stopped = inl (t, document, after, spelled, refl, none, ap input_fault_line is);
  }
  stopped_at old new piece document after t (Some stop.OutOfMemory) from mid to limit w spelled keeps some = record { limit = limit; rest = document ++ after; written = item_kept (documents_of rule) _ _ _ _ _ _ _ w keeps; stopped = tt }

  -- the text of a document was written, and the reader stands behind it
  pub one_written : (bytes : List ℕ) (base start behind : ℕ) (document after none : List ℕ) (t : Tree) (s : Option Stop) (from mid to : Option (List ℕ)) → ItemsWritten (documents_of rule) bytes base start (document ++ after) from mid
      → Spells t document → IsWrittenOrStops (rule start t) start s mid to → is_some s ≡ false → behind ≡ start + length document → none ≡ [] → ItemsWritten (documents_of rule) bytes base behind (none ++ after) from to
  one_written bytes base start behind document after none t None from mid to w spelled (text, told, appends) ended next empty =
      item_released (documents_of rule) bytes document none after text base start behind from mid to w (t, spelled) (t, spelled, told) appends next empty
  one_written bytes base start behind document after none t (Some s) from mid to w spelled told ended next empty = cc ended

-- what a reader holds, which is nothing, and a piece, are the document in front of this and what follows it
pub in_front : (r : Reading) (piece document rest : List ℕ) → IsInFront r piece document rest → r.held ++ piece ≡ document ++ rest
in_front r piece document rest is = ap (λ (x : List ℕ). x ++ piece) is.none_held ∙ is.parts
