use Rattle.byte_views.proofs.Building.{appends_leaf}
use Rattle.byte_views.proofs.build.builder.append.Goals as goal

pub returns-clause-pairs : goal.returns-clause-pairs
returns-clause-pairs c = λ t s none. appends_leaf c.args.room.now c.append_pair.new.room c.args.builder.now c.append_pair.new.builder c.args.name.now c.args.numbers.now c.args.text.now c.args.rest.now t _ c.append_pair.ensures s none
