-- What the lines of a case ask for.
use Rattle.std.specs.Prelude.{ℕ, List, [], Some, None, Option, string_bytes}
use Rattle.std.specs.declared.string.String.{String}
use Rattle.conformance.specs.declared.cases.Compared.{Compared}
use Rattle.conformance.specs.declared.cases.Compared.TheVariants.{Whole, Last, NotUnderstood}

-- The text of a trim's amount; there is none where there is no trim.
abbrev pub amount_text : {A : Type 0} → Option (String A) → List ℕ
amount_text None = []
amount_text (Some s) = string_bytes s

-- From a `last` line on only the last line counts, but a case that was not understood stays so.
abbrev pub lasting : Compared → Compared
lasting Whole = Last
lasting Last = Last
lasting NotUnderstood = NotUnderstood
