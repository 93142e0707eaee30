-- Which of the calls has had a part, as the table keeps it.
use Rattle.std.specs.Prelude.{◌≡◌, ◌⊎◌, ℤ, true, false, [], ◌∷◌, ◌++◌, Option, Some, None}
use Rattle.std.specs.Ordering.{int_eq}
use Rattle.wire_peer.specs.declared.call_table.Outstanding.{Outstanding}
use Rattle.wire_peer.specs.CallTables.{Table, bearer}

-- no call has had a part
abbrev pub NoneBegun : Table → Type 0
NoneBegun [] = Unit {0}
NoneBegun (o ∷ t) = (o.1.last ≡ None) × NoneBegun t

-- the call that bears the id is this one, and no other has had a part
abbrev pub OneBegun : ℤ → Outstanding → Table → Type 0
OneBegun id o [] = ⊥
OneBegun id o (e ∷ t) =
    ((int_eq id e.0 ≡ true) × (e ≡ (id, o)) × NoneBegun t)
    ⊎ ((int_eq id e.0 ≡ false) × (e.1.last ≡ None) × OneBegun id o t)

-- the id of the call that has had a part, if there is one
abbrev pub IsBegun : Table → Option ℤ → Type 0
IsBegun t None = NoneBegun t
IsBegun t (Some id) = (o : Outstanding) × (part : ℤ) × (o.last ≡ Some part) × OneBegun id o t

-- the call bears the id, and no other one has had a part
abbrev pub IsAlone : Table → ℤ → Outstanding → Type 0
IsAlone t id o = (bearer id t ≡ Some o) × (NoneBegun t ⊎ OneBegun id o t)

-- the last call has had no part
abbrev pub IsFreshLast : Table → Type 0
IsFreshLast t =
    (before : Table) × (o : ℤ × Outstanding) × (o.1.last ≡ None) × (t ≡ before ++ o ∷ [])
