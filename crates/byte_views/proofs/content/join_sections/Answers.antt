use Rattle.byte_views.proofs.ContentLaws.{all_joined}
use Rattle.byte_views.proofs.content.join_sections.Goals as goal

pub returns : goal.returns
returns c =
    all_joined c.args.body.now c.args.sequences.now _ _ _ _ _ _ c.args.len c.requires c.to_le_bytes.ensures c.in_ok-message.ensures.items c.in_ok-extend_from_slice.ensures.items
    c.in_ok-extend_from_slice-2.ensures.items c.in_ok-extend_from_slice-3.ensures.items c.in_ok-extend_from_slice-4.ensures.items
