use Rattle.std.{proofs.Common.{rules, ◌≡◌, ◌⊎◌, Some, ℕ, List}, proofs.lemmas.Result.err_from_is_err_and}
use Rattle.command_line.{specs.declared.role.Role.Role, specs.CommandFiles.output_of}
use Rattle.cli_stack.proofs.PerformLaws.{gather_reason, fault_reason, save_leaves}
use Rattle.cli_stack.proofs.driver.perform.perform.Goals as goal

pub returns-in_err-texts-clause-reason : goal.returns-in_err-texts-clause-reason
returns-in_err-texts-clause-reason g c =
    let p = err_from_is_err_and c.from_residual-in_err-texts.result c.from_residual-in_err-texts.ensures.1 in
    rw (p.1, p.2) (gather_reason (g.H.Heap.may_refuse c.args.heap ⊎ g.S.Shelf.may_refuse) _ _ c.args.command.now _ _
    c.in_err-texts.ensures.cause (search rules))

pub returns-in_err-save-clause-leaves : goal.returns-in_err-save-clause-leaves
returns-in_err-save-clause-leaves g c =
    let p = err_from_is_err_and c.from_residual-in_err-save.result c.from_residual-in_err-save.ensures.1 in
    let output : Role × List ℕ = (c.in-Some-Some.output.role, c.in-Some-Some.output.name.now) in
    let named : output_of c.args.command.now ≡ Some output = search rules in
    λ watches. rw (p.1, p.2)
    (save_leaves _ watches _ _ _ _ _ (g.S.Shelf.counts c.save.new.shelf) c.args.command.now _ _ output _ c.in_err-save.field-0.0 c.gather.ensures.files
    (search rules) c.in_ok-texts.ensures.texts (search rules) named c.gather.ensures.counts (rw c.as_str.ensures at c.in_err-save.ensures.err)
    (rw c.as_str.ensures at c.in_err-save.ensures.cause))

pub returns-in_err-save-clause-reason : goal.returns-in_err-save-clause-reason
returns-in_err-save-clause-reason g c =
    let p = err_from_is_err_and c.from_residual-in_err-save.result c.from_residual-in_err-save.ensures.1 in
    let output : Role × List ℕ = (c.in-Some-Some.output.role, c.in-Some-Some.output.name.now) in
    let named : output_of c.args.command.now ≡ Some output = search rules in
    rw (p.1, p.2) (fault_reason _ _ _ _ c.args.command.now output c.in_err-save.field-0.0 c.gather.ensures.counts named
    (rw c.as_str.ensures at c.in_err-save.ensures.cause))

pub returns-clause-leaves : goal.returns-clause-leaves
returns-clause-leaves g c = λ watches. search (rules, c.in_ok-finish.ensures.reply watches, c.in_ok-stored.ensures.reply watches)
