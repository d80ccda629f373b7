use Rattle.std.proofs.Common.{◌≡◌, None, Some, sym, ◌∙◌}
use Rattle.stack_shelf.proofs.Places.{file_there, no_file}
use Rattle.stack_shelf.proofs.memory_shelf.file_of.Goals as goal

pub returns-in_err-place : goal.returns-in_err-place
returns-in_err-place c =
    let none : c.place_of.result ≡ None = c.in_err-place.was in
    rw c.from_residual.ensures (sym (no_file c.args.files.now c.args.name.now (sym c.place_of.ensures ∙ none)))

pub returns : goal.returns
returns c =
    let some : c.place_of.result ≡ Some c.in_ok-place.place = c.in_ok-place.was in
    rw (c.as_slice.ensures.value, ← c.index-files-place.is)
    (sym (file_there c.args.files.now c.args.name.now c.in_ok-place.place c.index-files-place.result (sym c.place_of.ensures ∙ some) c.index-files-place.is))
