-- The parts of a sequence, resolved one after another.
use Rattle.std.{proofs.Common.{◌≡◌, ℕ, ◌+◌, ◌<◌, ◌≤◌, List, [], ◌∷◌, ◌++◌, length, get_or, drop, refl, sym, ap, ◌∙◌}, specs.declared.alloc.Global.Global}
use Rattle.std.{specs.declared.rc.Rc.Rc, proofs.lemmas.List.drop_all}
use Rattle.stack_text.proofs.Loops.{drop-item}
use Rattle.gypsy_syntax.{specs.declared.statement.Stmt.Stmt as Text, specs.Programs.{Stmt, Skip, Seq}, specs.Resolved.{statement_of, statement_of_all}}
use Rattle.gypsy_syntax.{specs.Views.SourceView.{parts_of_list, stmt_of}, specs.Sources.{ProcOf, SourceOf}}
use Rattle.gypsy_space.{specs.declared.program.Node.Node, specs.Nodes.{seen_statement, seen_statements}, specs.CallSites.sequenced}

sequenced-push : (ns : List (Rc Node Global)) (n : Rc Node Global) (rest : Stmt)
    → sequenced (ns ++ n ∷ []) rest ≡ sequenced ns (Seq (seen_statement n.value) rest)
sequenced-push [] n rest = refl
sequenced-push (m ∷ ns) n rest = ap (Seq (seen_statement m.value)) (sequenced-push ns n rest)

sequenced-skip : (ns : List (Rc Node Global)) → sequenced ns Skip ≡ seen_statements ns
sequenced-skip [] = refl
sequenced-skip (n ∷ ns) = ap (Seq (seen_statement n.value)) (sequenced-skip ns)

module _ (s : SourceOf) (p : ProcOf) (ns : List (Rc Node Global)) (parts : List Text) (k : ℕ) (whole : Stmt)
    (so_far : sequenced ns (statement_of_all s p (parts_of_list (drop k parts))) ≡ whole) where
  pub next_part : (n : Rc Node Global) (x : Text) → k < length parts → x ≡ get_or parts k x → seen_statement n.value ≡ statement_of s p (stmt_of x)
      → sequenced (ns ++ n ∷ []) (statement_of_all s p (parts_of_list (drop (k + 1) parts))) ≡ whole
  next_part n x lt is e =
      let rest = statement_of_all s p (parts_of_list (drop (k + 1) parts)) in
      sequenced-push ns n rest
      ∙ ap (sequenced ns) (ap (λ (st : Stmt). Seq st rest) e ∙ ap (λ (xs : List Text). statement_of_all s p (parts_of_list xs))
      (sym (drop-item parts k x lt is)))
      ∙ so_far

  pub all_parts : length parts ≤ k → seen_statements ns ≡ whole
  all_parts past =
      sym (sequenced-skip ns)
      ∙ ap (λ (xs : List Text). sequenced ns (statement_of_all s p (parts_of_list xs))) (sym (drop_all k parts past))
      ∙ so_far
