use Rattle.std.proofs.Common.{◌++◌, ◌+◌, refl}
use Rattle.fm_show.{specs.Listing.{register_line, register_lines}, proofs.LineLaws.{lines_next, lines_end}}
use Rattle.fm_show.proofs.listing.push_registers.Goals as goal

pub loop-r-preserved : goal.loop-r-preserved
loop-r-preserved g c =
    lines_next register_line c.args.registers.now c.loop-r.r c.loop-r.r (c.loop-r.r + 1) _ c.loop-r.text.items c.push_register.new.text.items
    (c.args.text.now.items ++ register_lines c.args.registers.now) c.loop-r-test.true refl refl c.in_ok-push_register.ensures c.loop-r.invariant

pub returns : goal.returns
returns g c =
    lines_end register_line c.args.registers.now c.loop-r.r c.loop-r.r c.loop-r.text.items
    (c.args.text.now.items ++ register_lines c.args.registers.now) c.loop-r-test.false c.loop-r.invariant
