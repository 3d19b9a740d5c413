-- What the contract of `tell_style` says of its parameters. It need not be believed.
use Rattle.queries.specs.Reply.{Reply}
use Rattle.std.specs.Prelude.{ℕ, ◌≡◌, List}

-- this answer, and these ids
abbrev pub This : Reply → List ℕ → Reply → List ℕ → Type 0
This x ids answer left = (answer ≡ x) × (left ≡ ids)
