-- Worked programs.
use Rattle.std.proofs.Common.{refl}
use Rattle.mini_gypsy.{specs.Examples.ProgramsDo, specs.Meant.{expression_value, infix_worth, program_run}}

pub programs_do : ProgramsDo
unfolding program_run expression_value infix_worth
programs_do = record { overflows = refl; adds = refl; is_bounded = refl }
