-- The connections that a pool has lent.
use Rattle.std.specs.Prelude.{ℕ, true, false, not, ◌==◌, List, Option}
use Rattle.std.specs.List.{filter, find}
use Rattle.wire_pool.specs.declared.loans.Loan.{Loan}

-- a new loan of this connection
abbrev pub lending : ℕ → Loan
lending id = record { id = id; cleared = false }

-- the same loan, after the pool was cleared
abbrev pub cleared : Loan → Loan
cleared loan = record loan { cleared = true }

-- the loan of the connection with this id, if it is lent
abbrev pub loan_of : ℕ → List Loan → Option Loan
loan_of id lent = find (λ loan. loan.id == id) lent

-- the loans of the other connections
abbrev pub without : ℕ → List Loan → List Loan
without id lent = filter (λ loan. not (loan.id == id)) lent
