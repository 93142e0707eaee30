-- Frames are the items of their rule.
use Rattle.std.proofs.Common.{◌≡◌, ◌⊎◌, inl, inr, ℕ, ◌+◌, ◌<◌, List, length, take, refl, sym, ap, subst, ◌∙◌, arith}
use Rattle.framing.specs.Items as items
use Rattle.framing.specs.{BeginsNone, HasLead, IsEnd, IsItem, IsItself, IsRefused, IsWholeItem, ItemSplit, bounded}
use Rattle.framing.proofs.Lemmas.{is_within, outside, outside_is, splits_along, within_is}
use Rattle.wire_msg.specs.declared.fault.MsgFault.{MsgFault}
use Rattle.wire_msg.specs.declared.fault.MsgCause.TheVariants.{Length}
use Rattle.wire_msg.specs.declared.header.MsgHeader.{MsgHeader}
use Rattle.wire_msg.specs.{msg_fault, number_at}
use Rattle.wire_msg.proofs.Lemmas.{header_of-take}
use Rattle.wire_frames.specs.FrameRule.{frame_rule}
use Rattle.wire_frames.specs.Frames.{BeginsNoFrame, FrameSplit, IsFrame, IsWholeFrame, LacksFrame, WantsMore, of_frame, of_header}

-- the length in the first 16 bytes is that of all
in_header : (bytes : List ℕ) → number_at (take 16 bytes) 0 ≡ number_at bytes 0
in_header bytes = ap (λ (h : MsgHeader). h.length) (header_of-take bytes)

no_lead : (limit : ℕ) (bytes : List ℕ) → HasLead (frame_rule limit) bytes
no_lead limit bytes = record { long = omega arith; passes = refl }

-- ---- one frame

pub to_frame : (limit : ℕ) (bytes : List ℕ) → IsItem (frame_rule limit) bytes → IsFrame limit bytes
to_frame limit bytes i =
    let w = is_within 16 limit (msg_fault 0 Length) (number_at (take 16 bytes) 0) (length bytes) i.announced in
    record {
      framed = record { header = i.header; announced = sym (in_header bytes) ∙ sym w.same };
      within = omega (arith, w.same, w.high);
    }

pub of_frame_is : (limit : ℕ) (bytes : List ℕ) → IsFrame limit bytes → IsItem (frame_rule limit) bytes
of_frame_is limit bytes f = record {
  leads = no_lead limit bytes;
  header = f.framed.header;
  announced = ap (bounded 16 limit (msg_fault 0 Length)) (in_header bytes ∙ f.framed.announced) ∙ within_is 16 limit (msg_fault 0 Length) (length bytes) f.framed.header f.within;
}

pub to_whole : (limit : ℕ) (bytes frame rest : List ℕ) → IsWholeItem (frame_rule limit) bytes frame rest → IsWholeFrame limit bytes frame rest
to_whole limit bytes frame rest w = record { parts = w.parts; is = to_frame limit frame w.is }

pub of_whole : (limit : ℕ) (bytes frame rest : List ℕ) → IsWholeFrame limit bytes frame rest → IsWholeItem (frame_rule limit) bytes frame rest
of_whole limit bytes frame rest w = record { parts = w.parts; is = of_frame_is limit frame w.is }

-- ---- too few bytes

pub to_wants : (limit : ℕ) (bytes : List ℕ) (n : ℕ) → items.WantsMore (frame_rule limit) bytes n → WantsMore limit bytes n
to_wants limit bytes n (items.of_lead some is) = absurd (omega (arith, some, is))
to_wants limit bytes n (items.of_header some l is) = of_header some is
to_wants limit bytes n (items.of_item some a) =
    let w = is_within 16 limit (msg_fault 0 Length) (number_at (take 16 bytes) 0) (length bytes + n) a.announced in
    of_frame some a.header (record { least = omega (arith, w.low, in_header bytes); most = omega (arith, w.high, in_header bytes) }) (w.same ∙ in_header bytes)

pub of_wants : (limit : ℕ) (bytes : List ℕ) (n : ℕ) → WantsMore limit bytes n → items.WantsMore (frame_rule limit) bytes n
of_wants limit bytes n (of_header some is) = items.of_header some (no_lead limit bytes) is
of_wants limit bytes n (of_frame some long good is) = items.of_item some (record {
  leads = no_lead limit bytes;
  header = long;
  announced = ap (bounded 16 limit (msg_fault 0 Length)) (in_header bytes ∙ sym is) ∙ within_is 16 limit (msg_fault 0 Length) (length bytes + n) (omega (arith, good.least, is)) (omega (arith, good.most, is));
})

-- ---- no frame

pub to_lacks : (limit : ℕ) (bytes : List ℕ) (fault : MsgFault) → IsRefused (frame_rule limit) bytes fault → LacksFrame limit bytes × (fault ≡ msg_fault 0 Length)
to_lacks limit bytes fault (items.by_lead l) = let e = l.fails in absurd cc
to_lacks limit bytes fault (items.by_header r) =
    let o = outside 16 limit (msg_fault 0 Length) fault (number_at (take 16 bytes) 0) r.announced in
    (record { header = r.header; wrong = subst (λ (n : ℕ). (n < 16) ⊎ (limit < n)) (in_header bytes) o.0 }, o.1)

pub of_lacks : (limit : ℕ) (bytes : List ℕ) → LacksFrame limit bytes → IsRefused (frame_rule limit) bytes (msg_fault 0 Length)
of_lacks limit bytes l = items.by_header (record {
  leads = no_lead limit bytes;
  header = l.header;
  announced = ap (bounded 16 limit (msg_fault 0 Length)) (in_header bytes) ∙ outside_is 16 limit (msg_fault 0 Length) (number_at bytes 0) l.wrong;
})

pub to_end : (limit : ℕ) (rest : List ℕ) → IsEnd (frame_rule limit) rest → ((n : ℕ) × WantsMore limit rest n) ⊎ LacksFrame limit rest
to_end limit rest (items.at_open n o) = inl (n, to_wants limit rest n o)
to_end limit rest (items.at_refused f r) = inr (to_lacks limit rest f r).0

-- ---- frames, one after another

pub to_split : (limit : ℕ) (bytes : List ℕ) (frames : List (List ℕ)) (rest : List ℕ) → ItemSplit (frame_rule limit) bytes frames rest → FrameSplit limit bytes frames rest
to_split limit bytes frames rest =
    splits_along (IsItself (IsItem (frame_rule limit))) (IsItself (IsFrame limit)) (BeginsNone (frame_rule limit)) (BeginsNoFrame limit) bytes frames rest (λ x b i. (to_frame limit x i.0, i.1))
    (λ none frame after w. none frame after (of_whole limit rest frame after w))

pub of_split : (limit : ℕ) (bytes : List ℕ) (frames : List (List ℕ)) (rest : List ℕ) → FrameSplit limit bytes frames rest → ItemSplit (frame_rule limit) bytes frames rest
of_split limit bytes frames rest =
    splits_along (IsItself (IsFrame limit)) (IsItself (IsItem (frame_rule limit))) (BeginsNoFrame limit) (BeginsNone (frame_rule limit)) bytes frames rest (λ x b i. (of_frame_is limit x i.0, i.1))
    (λ none frame after w. none frame after (to_whole limit rest frame after w))
