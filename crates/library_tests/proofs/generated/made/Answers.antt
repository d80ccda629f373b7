use Rattle.library_tests.proofs.generated.made.Goals as goal

pub marks-requires-clause-words : goal.marks-requires-clause-words
marks-requires-clause-words c = c.in_ok-system.ensures.runs.limits.few_words
