-- What clauses see of sequences that are made, and that are matched.
use Rattle.std.proofs.Common.{◌≡◌, refl, ap, ◌∙◌}
use Rattle.gypsy_syntax.specs.Programs.{Seq}
use Rattle.gypsy_space.specs.declared.program.Node.{Row_of-Node-Seq-0-1, end_of-Node-Seq-0-1, more_of-Node-Seq-0-1, items-the_row-Node-Seq-0-1}
use Rattle.gypsy_space.{specs.declared.program.Node.items_hidden-the_row-Node-Seq-0-1-0, specs.declared.program.Node.TheBlock.hidden-the_row-Node-Seq-0-1-0}
use Rattle.gypsy_space.{specs.declared.program.Node.TheVariants.Seq as MadeSeq, specs.Nodes.{seen_statement, seen_parts, seen_statements}}

parts_listed : (n : _) (k : Row_of-Node-Seq-0-1 n) → seen_parts k ≡ seen_statements (items-the_row-Node-Seq-0-1 n k)
parts_listed n end_of-Node-Seq-0-1 = refl
parts_listed n (more_of-Node-Seq-0-1 p s rest) = ap (Seq (seen_statement s)) (parts_listed _ rest)

pub seen_statement-seq : (parts : _) → seen_statement (MadeSeq parts) ≡ seen_statements parts.value.items
seen_statement-seq parts = parts_listed _ (hidden-the_row-Node-Seq-0-1-0 parts.value) ∙ ap seen_statements (items_hidden-the_row-Node-Seq-0-1-0 parts.value)
