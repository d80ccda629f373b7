use Rattle.std.proofs.Common.{◌∙◌, ap, sym, subst}
use Rattle.piton_semantics.{specs.Placed.addresses_of, specs.Templates.word_of, proofs.PieceLaws.word_is}
use Rattle.piton_check.specs.Instruction.{system_view}
use Rattle.piton_linker.{specs.Tables.PieceExists, proofs.NameLaws.word_named}
use Rattle.piton_linker.proofs.data.number.Goals as goal

pub word-requires-clause-named : goal.word-requires-clause-named
word-requires-clause-named c =
    let s = system_view c.args.checked.now in
    subst (PieceExists s) (sym c.word_piece.ensures) (word_named s c.args.item c.requires.there)

pub returns : goal.returns
returns c =
    let s = system_view c.args.checked.now in
    c.word.ensures ∙ ap (word_of (addresses_of s) 0) c.word_piece.ensures ∙ word_is (addresses_of s) 0 c.args.item
