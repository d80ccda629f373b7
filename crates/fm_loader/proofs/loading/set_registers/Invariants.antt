use Rattle.std.proofs.Common.{◌≡◌, take, length}
use Rattle.fm_loader.proofs.loading.set_registers.Given as goal

-- the registers so far are set, and nothing else changed
abbrev pub invariant-loop-number : goal.invariant-loop-number
invariant-loop-number l = record {
  front : take l.number l.machine.state.registers ≡ take l.number l.registers;
  sixteen : length l.machine.state.registers ≡ 16;
  same : l.machine.state ≡ record l.initial.machine.state { registers = l.machine.state.registers };
}
