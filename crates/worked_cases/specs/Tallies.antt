-- How many cases were tried, and how many went wrong.
use Rattle.std.specs.Prelude.{ℕ, ◌+◌, ◌-◌, ◌^◌, min, Bool, cond, List, ◌++◌, codes, decimal}
use Rattle.worked_cases.specs.declared.tally.Tally.{Tally}

-- More by so many, as far as 64 bits go.
abbrev pub more : ℕ → ℕ → ℕ
more k n = min (n + k) (2 ^ 64 - 1)

-- One case more, which went right or wrong.
abbrev pub tried : Bool → Tally → Tally
tried right t = record { cases = more 1 t.cases; wrong = more (cond right 0 1) t.wrong }

abbrev pub tally_text : Tally → List ℕ
tally_text t = decimal t.cases ++ (codes " cases, " ++ (decimal t.wrong ++ codes " wrong"))
