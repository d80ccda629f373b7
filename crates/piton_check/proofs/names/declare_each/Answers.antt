use Rattle.std.proofs.Common.{◌≡◌, [], Some, arith}
use Rattle.piton_check.{specs.Declarations.{Declaration, declaration}, proofs.TableLaws.{known_next, noted_next}}
use Rattle.name_tables.specs.Entries.{look_up}
use Rattle.piton_check.proofs.names.declare_each.Goals as goal

pub loop-index-preserved : goal.loop-index-preserved
loop-index-preserved g c =
    let one = c.index-items-index.result in
    let declared = declaration g.T.Declared.named in
    let told : Declaration = Some (record { place = c.place.result; name = c.name.result.now }) in
    let same : told ≡ declared one = λ i. Some (record { place = c.place.ensures i; name = c.name.ensures i }) in
    record {
      known = known_next declared [] c.args.items.now c.loop-index.index one told c.loop-index.index (look_up c.loop-index.table)
          (look_up c.declare.new.table)
          c.loop-index-test.true c.index-items-index.is same (omega arith) c.loop-index.invariant.known c.in_ok-declare.ensures.entered;
      noted = noted_next declared [] c.args.rule c.args.items.now c.loop-index.index one told c.args.best.now c.loop-index.best c.declare.new.best
          (look_up c.loop-index.table)
          c.loop-index-test.true c.index-items-index.is same c.loop-index.invariant.known c.loop-index.invariant.noted
          c.in_ok-declare.ensures.noted;
    }
