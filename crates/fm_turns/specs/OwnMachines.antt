-- The machine that a task would have to itself.
use Rattle.std.specs.Prelude.{List, map}
use Rattle.fm_machine.specs.State.{Fm}
use Rattle.fm_turns.specs.{declared.context.TaskContext.{TaskContext}, Turns.{TurnsOf, machine_at_turn}, Windows.{words_in}}

-- its registers and flags, and the words of its own window
abbrev pub own_machine : TurnsOf → TaskContext → Fm
own_machine turns context =
    record {
      base = context.image.base;
      registers = context.registers;
      flags = context.flags;
      memory = words_in context.image.base context.image.size (machine_at_turn turns.base turns.memory context);
    }

abbrev pub own_machines : TurnsOf → List Fm
own_machines turns = map (own_machine turns) turns.contexts
