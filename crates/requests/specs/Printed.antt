-- The lines that the programs print.
use Rattle.std.specs.Prelude.{ℕ, List, ◌++◌, codes, decimal}

-- `p cnf V C` and a line feed
abbrev pub head_line : ℕ → ℕ → List ℕ
head_line v c = codes "p cnf " ++ (decimal v ++ (codes " " ++ (decimal c ++ codes "\n")))

-- `refused N` and a line feed
abbrev pub refused_line : ℕ → List ℕ
refused_line n = codes "refused " ++ (decimal n ++ codes "\n")
