use Rattle.std.proofs.Common.{◌≡◌, ◌+◌, ◌++◌, suc, max, ap, ◌∙◌, map, arith}
use Rattle.gypsy_syntax.specs.Views.SourceView.{stmt_of}
use Rattle.mini_gypsy.{specs.Lowered.value_parts, proofs.PartLaws.{before_pushed, between_pushed, leaf_pushed}, proofs.ResolveLaws.depth_some}
use Rattle.mini_syntax.{specs.ProgramView.exp_of, specs.Sorted.depth, specs.Operands.sort_of}
use Rattle.mini_gypsy.proofs.values.+append_value.Goals as goal

pub before-requires : goal.before-requires
before-requires g t c =
    let operand = exp_of c.in-Before.operand.value in
    let same : depth (exp_of c.args.value.now) ≡ depth operand = ap depth (ap exp_of c.in-Before.is) in
    omega (arith, c.requires.shallow, same, depth_some operand)

pub between-requires : goal.between-requires
between-requires g t c =
    let a = exp_of c.in-Between.left.value in
    let b = exp_of c.in-Between.right.value in
    let same : depth (exp_of c.args.value.now) ≡ max (depth a) (suc (depth b)) = ap depth (ap exp_of c.in-Between.is) in
    omega (arith, c.requires.shallow, same, depth_some b)

pub returns-in_ok-push-in-Variable : goal.returns-in_ok-push-in-Variable
unfolding value_parts
returns-in_ok-push-in-Variable g t c =
    leaf_pushed (map (λ d. d.name) c.args.declared.now) c.args.depth (exp_of c.args.value.now) _ c.args.parts.now.items c.push.new.items.items
    c.in_ok-made-in-Variable.made
    (ap (value_parts (map (λ d. d.name) c.args.declared.now) c.args.depth) (ap exp_of c.in-Variable.is)) c.in_ok-push-in-Variable.ensures.items
    c.in_ok-made-in-Variable.ensures

pub returns-in_ok-push-in-Number : goal.returns-in_ok-push-in-Number
unfolding value_parts
returns-in_ok-push-in-Number g t c =
    leaf_pushed (map (λ d. d.name) c.args.declared.now) c.args.depth (exp_of c.args.value.now) _ c.args.parts.now.items c.push-in-Number.new.items.items
    c.in_ok-made-in-Number.made
    (ap (value_parts (map (λ d. d.name) c.args.declared.now) c.args.depth) (ap exp_of c.in-Number.is)) c.in_ok-push-in-Number.ensures.items
    c.in_ok-made-in-Number.ensures

pub returns-in_ok-push-in-Truth : goal.returns-in_ok-push-in-Truth
unfolding value_parts
returns-in_ok-push-in-Truth g t c =
    leaf_pushed (map (λ d. d.name) c.args.declared.now) c.args.depth (exp_of c.args.value.now) _ c.args.parts.now.items c.push-in-Truth.new.items.items
    c.in_ok-made-in-Truth.made
    (ap (value_parts (map (λ d. d.name) c.args.declared.now) c.args.depth) (ap exp_of c.in-Truth.is)) c.in_ok-push-in-Truth.ensures.items
    c.in_ok-made-in-Truth.ensures

pub returns-in_ok-push-in-Before : goal.returns-in_ok-push-in-Before
returns-in_ok-push-in-Before g t c =
    let names = map (λ d. d.name) c.args.declared.now in
    let operand = exp_of c.in-Before.operand.value in
    before_pushed names c.args.depth c.in-Before.op (exp_of c.args.value.now) operand c.sort.result
    c.args.parts.now.items c.append_value.new.parts.items c.push-in-Before.new.items.items c.in_ok-made-in-Before.made
    (ap exp_of c.in-Before.is)
    (c.sort.ensures ∙ ap (λ e. sort_of (exp_of e)) c.deref-in-Before.ensures)
    (c.in_ok-append_value-in-Before.ensures ∙ ap (λ e. map stmt_of c.args.parts.now.items ++ value_parts names c.args.depth (exp_of e)) c.deref.ensures)
    c.in_ok-made-in-Before.ensures
    c.in_ok-push-in-Before.ensures.items

pub returns-in_ok-push-in-Between : goal.returns-in_ok-push-in-Between
returns-in_ok-push-in-Between g t c =
    let names = map (λ d. d.name) c.args.declared.now in
    let a = exp_of c.in-Between.left.value in
    let b = exp_of c.in-Between.right.value in
    let next : c.args.depth + 1 ≡ suc c.args.depth = omega arith in
    between_pushed names c.args.depth c.in-Between.op (exp_of c.args.value.now) a b c.sort-in-Between.result c.sort-in-Between-2.result
    c.args.parts.now.items c.append_value-in-Between.new.parts.items c.append_value-in-Between-2.new.parts.items c.push-in-Between.new.items.items
    c.in_ok-made-in-Between.made
    (ap exp_of c.in-Between.is)
    (c.sort-in-Between.ensures ∙ ap (λ e. sort_of (exp_of e)) c.deref-in-Between-3.ensures)
    (c.sort-in-Between-2.ensures ∙ ap (λ e. sort_of (exp_of e)) c.deref-in-Between-4.ensures)
    (c.in_ok-append_value-in-Between.ensures ∙ ap (λ e. map stmt_of c.args.parts.now.items ++ value_parts names c.args.depth (exp_of e))
    c.deref-in-Between.ensures)
    (c.in_ok-append_value-in-Between-2.ensures
    ∙ ap (λ k. map stmt_of c.append_value-in-Between.new.parts.items ++ value_parts names k (exp_of c.deref-in-Between-2.result.now)) next
    ∙ ap (λ e. map stmt_of c.append_value-in-Between.new.parts.items ++ value_parts names (suc c.args.depth) (exp_of e)) c.deref-in-Between-2.ensures)
    c.in_ok-made-in-Between.ensures
    c.in_ok-push-in-Between.ensures.items
