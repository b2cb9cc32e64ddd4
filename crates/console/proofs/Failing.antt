-- A failure that is not the system's: a line that is told, or want of memory.
use Rattle.console.specs.Commands.{Because}
use Rattle.console.specs.declared.failure.Failure.{Failure}
use Rattle.console.specs.declared.failure.Failure.TheVariants.{Told, System, Memory}

pub because_case : (Q : Failure → Type 0) (f : Failure) → Because (Unit {0}) f → ((line : _) → Q (Told line)) → Q Memory → Q f
because_case Q (Told line) b told wanting = told line
because_case Q (System e) b told wanting = absurd b
because_case Q Memory b told wanting = wanting
