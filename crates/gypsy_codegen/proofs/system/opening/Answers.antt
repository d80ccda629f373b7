use Rattle.std.proofs.Common.{map}
use Rattle.gypsy_space.specs.Nodes.{seen_proc}
use Rattle.gypsy_codegen.{specs.WordsOf.zero_value, proofs.WritableLaws.opening_is}
use Rattle.gypsy_codegen.proofs.system.opening.Goals as goal

pub returns : goal.returns
returns g c =
    let main = seen_proc c.args.main.now in
    let zeros = c.in_ok-formal_words.ensures in
    let values = c.in_ok-local_words.ensures in
    opening_is (map zero_value main.formals) main.locals c.new-stack.result.items c.formal_words.new.words.items c.local_words.new.words.items
    c.new-stack.ensures.items (rw c.as_slice.ensures.value at zeros) (rw c.as_slice-2.ensures.value at values)
