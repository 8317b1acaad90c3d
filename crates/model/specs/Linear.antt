-- Linear conditions: those that the search takes.
use Rattle.std.specs.Prelude.{Bool, true, false, List, T}
use Rattle.model.specs.declared.Mover.TheVariants.{Sender, Receiver, NotLinear}
use Rattle.model.specs.Clause.{every_of, mover, Clause}
use Rattle.model.specs.Clause.Clause.{local, on}

-- a test is linear if it says who has to move, and a condition if each of its tests is
abbrev pub linear : Clause → Bool
linear (local i v o x) = true
linear (on c t) = elim (mover t 0) [ Sender ↦ true | Receiver ↦ true | NotLinear ↦ false ]

abbrev pub Linear : List Clause → Type 0
Linear cond = T (every_of linear cond)
