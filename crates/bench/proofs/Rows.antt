-- Each row is computed. Where it speaks of every reading or every line, its numbers are put in first.
use mathlib.Core.Bool.{Bool, true, false, ◌&&◌}
use mathlib.Core.Path.{◌≡◌, refl}
use Rattle.reading.specs.declared.Cause.TheVariants.{UnreadableLine}
use Rattle.bench.specs.Table.{TheBenchNumbersHold}

-- one row, and those below it
infixr 20 ◌then◌
◌then◌ : {A B : Type 0} → A → B → A × B
a then b = (a, b)

-- a line is readable if it passes its tests, one after the other: a later one that fails is enough
and_false : (b : Bool) → (b && false) ≡ false
and_false true = refl
and_false false = refl

pub hold : TheBenchNumbersHold
hold =
    refl
    then refl
    then refl
    then (λ es before. rw before refl)
    then (λ t m at cur. rw (at, cur) refl)
    then (λ t m at cur. rw (at, cur) refl)
    then (λ t m n at one other first newest. rw (at, one, other, first, newest) refl)
    then (λ t m n at one other first newest. rw (at, one, other, first, newest) refl)
    then (λ m dcin. rw dcin refl)
    then (λ m dcin. rw dcin refl)
    then (λ m dcin. rw dcin refl)
    then (λ m dcin. rw dcin refl)
    then (λ names line n field. (UnreadableLine, refl, rw field (simp and_false refl)))
    then (λ names line n field. (UnreadableLine, refl, rw field (simp and_false refl)))
    then (λ m cur. rw cur refl)
    then tt
