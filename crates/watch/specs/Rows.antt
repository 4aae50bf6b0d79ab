-- The row of three alarms.
use Rattle.std.specs.Prelude.{◌≡◌, ℕ, List, slice_index_or, slice_set}
use Rattle.watch.specs.declared.row.Level.{Level}
use Rattle.watch.specs.declared.row.Level.TheVariants.{First, Second, Third}

abbrev pub index_of : Level → ℕ
index_of First = 0
index_of Second = 1
index_of Third = 2

-- The alarm of a level: whatever d stands for an alarm that the row lacks, since it lacks none.
abbrev pub IsAt : {A : Type 0} → Level → List A → A → Type 0
IsAt {A} level alarms a = (d : A) → a ≡ slice_index_or alarms (index_of level) d

-- The alarm of a level is changed, and the others stay.
abbrev pub ChangedAt : {A : Type 0} → Level → (A → A) → List A → List A → Type 0
ChangedAt {A} level f old new = (d : A) → new ≡ slice_set old (index_of level) (f (slice_index_or old (index_of level) d))
