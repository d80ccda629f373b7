use Rattle.std.proofs.Common.{ℕ, List, length, map, ap, sym, ◌∙◌}
use Rattle.gypsy_syntax.specs.Programs.{Arg}
use Rattle.gypsy_space.specs.Nodes.{seen_arg}
use Rattle.quick_code.specs.Access.{find_code}
use Rattle.quick_gypsy.{specs.Layout.Layout, specs.RowCode.arg_access}
use Rattle.quick_generate.{specs.Rows.row_size, specs.Views.frame_layout, proofs.RowSizeLaws.row_size_is}
use Rattle.quick_generate.proofs.size.row_size.Goals as goal

pub returns-clause-exact : goal.returns-clause-exact
returns-clause-exact c =
    let r = c.args.which in
    let L : Layout = frame_layout c.args.frame.now in
    let args : List Arg = map seen_arg c.args.args.now in
    let x : ℕ = length (find_code (arg_access L args 0)) in
    let y : ℕ = length (find_code (arg_access L args 1)) in
    c.row_size_by.ensures.exact
    ∙ ap (λ (n : ℕ). row_size n c.found-y.result c.found-z.result r) c.found-x.ensures.exact
    ∙ ap (λ (n : ℕ). row_size x n c.found-z.result r) c.found-y.ensures.exact
    ∙ ap (λ (n : ℕ). row_size x y n r) c.found-z.ensures.exact
    ∙ sym (row_size_is L 0 args r)
