use Rattle.piton_syntax.proofs.WordPrintLaws.{printed_item}
use Rattle.piton_syntax.proofs.printing.word.print_word.Goals as goal

pub returns : goal.returns
returns g c =
    printed_item c.args.out.now.items c.open_word.new.out.items c.spaced_parts.new.out.items c.push.new.items.items c.args.word.now.item c.tag_of.result
    c.tag_of.ensures c.in_ok-open_word.ensures
    c.in_ok-spaced_parts.ensures c.in_ok-push.ensures.items
