-- The refusals that have one number alone, as values.
use Rattle.number_table.specs.declared.table.WrongLength.{WrongLength}
use Rattle.number_table.specs.declared.table.TooLate.{TooLate}

-- number 1
abbrev pub number_one : WrongLength
number_one = record {}

-- number 10
abbrev pub number_ten : TooLate
number_ten = record {}
