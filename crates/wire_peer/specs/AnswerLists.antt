-- What answers carry.
use Rattle.std.specs.Prelude.{List, map}
use Rattle.wire_msg.specs.{Content}
use Rattle.wire_peer.specs.declared.answer_list.Answers.{Answers}
use Rattle.wire_peer.specs.Contents.{buf_content}

-- the contents of the answers, in order
abbrev pub answers_of : Answers → List Content
answers_of a = map buf_content a.list.items
