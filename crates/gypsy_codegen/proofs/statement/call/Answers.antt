use Rattle.std.proofs.Common.{◌+◌, ◌++◌, List, map}
use Rattle.gypsy_syntax.specs.Programs.{proc_at}
use Rattle.gypsy_space.{specs.Needs.{local_words, call_need}, specs.Nodes.{seen_cond, seen_program}}
use Rattle.gypsy_codegen.{specs.Guard.guard_code, specs.Lines.{unmarked, before_code, after_lines}, specs.Internal.Views.{env, names_of}, specs.Written.Line}
use Rattle.gypsy_codegen.proofs.CodeLaws.{both_are}
use Rattle.gypsy_codegen.proofs.statement.call.Goals as goal

pub returns : goal.returns
returns g c =
    let context = c.args.context.now in
    let q = seen_program context.program.now in
    let p = context.procedure in
    let site = c.args.site.now in
    let l = c.args.first in
    let n = names_of context in
    let guard : List Line = unmarked (guard_code (call_need q site.callee) (l + 2)) in
    let before : List Line = unmarked (before_code q p site.callee site.actuals.items) in
    let after : List Line = after_lines q p (env c.args.scopes.now) l (local_words (proc_at q site.callee)) (map seen_cond site.conds.items) in
    both_are n guard (before ++ after) _ _ _ c.in_ok-guard_call.ensures
    (both_are n before after _ _ _ c.in_ok-before_call.ensures c.in_ok-after_call.ensures)
