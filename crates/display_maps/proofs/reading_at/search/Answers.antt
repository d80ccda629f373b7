use Rattle.std.{proofs.Common.rules, proofs.lemmas.List.Sorted.answers_always}
use Rattle.fm_image.proofs.MarkLaws.{marks_ascend}
use Rattle.display_maps.proofs.SearchLaws.{searched}
use Rattle.display_maps.proofs.reading_at.search.Goals as goal

-- the closure gives a mark's address, and the marks of an image ascend
pub returns : goal.returns
returns c =
    let facts = c.binary_search_by_key.ensures in
    let by_address = facts.position (λ mark. mark.address) (answers_always _ _ _ (λ f a r g called. search rules)) in
    let both = searched c.deref.result.now (rw c.deref.ensures.value (marks_ascend _ c.image.invariant)) c.args.address c.binary_search_by_key.result
    facts.bound by_address in
    rw (← c.image.view_is, ← c.deref.ensures.value) (record { found = both.0; absent = both.1 })
