-- What becomes of replies that don't go on whole.
use Rattle.std.specs.Prelude.{ℕ, ℤ, List, [], ◌∷◌, ◌++◌, Option, Some, None, position, remove}
use Rattle.std.specs.Prelude.{slice_get}
use Rattle.std.specs.Ordering.{int_eq}
use Rattle.script_rules.specs.declared.action.Flow.{Flow}
use Rattle.script_rules.specs.declared.action.Flow.TheVariants as flows
use Rattle.proxy.specs.declared.marks.Mark.{Mark}

-- the index of the first mark of the request with this id
abbrev pub index_of : ℤ → List Mark → Option ℕ
index_of id ms = position (λ m. int_eq m.id id) ms

-- what becomes of the reply by its mark; all is sent where there is none
abbrev pub flow_by : Option Mark → Flow
flow_by None = flows.Whole
flow_by (Some m) = m.flow

abbrev pub flow_at : Option ℕ → List Mark → Flow
flow_at None ms = flows.Whole
flow_at (Some i) ms = flow_by (slice_get ms i)

-- the marks without the one at the index, if there is one
abbrev pub without : Option ℕ → List Mark → List Mark
without None ms = ms
without (Some i) ms = remove ms i

-- the marks with that of a request behind them, if its reply doesn't go on whole
abbrev pub marked : ℤ → Flow → List Mark → List Mark
marked id (flows.Cut count) ms = ms ++ record { id = id; flow = flows.Cut count } ∷ []
marked id flows.Dropped ms = ms ++ record { id = id; flow = flows.Dropped } ∷ []
marked id flow ms = ms
