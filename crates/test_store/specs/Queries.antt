-- What find asks for, as it was read.
use Rattle.bson_doc.specs.{tree_of}
use Rattle.test_store.specs.declared.commands.find.Query.{Query}
use Rattle.test_store.specs.declared.commands.find.Shape.{Shape}
use Rattle.test_store.specs.Commands.{QueryView, ShapeView}
use Rattle.test_store.specs.Selecting.{selection_of}

abbrev pub shape_of : Shape → ShapeView
shape_of s =
    record { count = s.count; is_single = s.is_single; projection = tree_of s.projection }

abbrev pub query_of : Query → QueryView
query_of q = record { selection = selection_of q.selection; shape = shape_of q.shape }
