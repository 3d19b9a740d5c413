-- What the functions under `read_back` answer. Definitions alone.
use Rattle.std.specs.Prelude.{Result, Ok, Err, ⊤, ℕ}
use Rattle.ttml.specs.declared.back.NotBack.{NotBack}
use Rattle.tree.specs.declared.answers.Refusal.{Refusal}

-- how many bytes are written
abbrev pub count_of : Result ℕ Refusal → ℕ
count_of (Ok n) = n
count_of (Err r) = 0

-- what came of writing and reading
abbrev pub outcome_of : Result ℕ Refusal → Result ⊤ Refusal → Result ℕ NotBack
outcome_of (Ok n) (Ok tt) = Ok n
outcome_of (Ok n) (Err r) = Err (NotBack.Unread n r)
outcome_of (Err r) reading = Err (NotBack.Unwritten r)
