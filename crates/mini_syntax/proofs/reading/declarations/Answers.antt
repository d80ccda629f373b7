use Rattle.std.{proofs.Common.{◌≡◌, [], ◌∷◌, ◌++◌, List, length, sym, ap, ◌∙◌, arith}, proofs.lemmas.List.length-append}
use Rattle.name_tables.specs.Entries.{Entries, look_up}
use Rattle.mini_syntax.{specs.Breaches.{declared_by, variable_named}, specs.declared.program.Declared.Declared, specs.declared.scope.Variable.Variable}
use Rattle.mini_syntax.{specs.Grammar.decl_tokens, specs.Internal.Lexemes.left_of, specs.Internal.Phrases.sort_declared, proofs.AwaitLaws.no_declaration}
use Rattle.mini_syntax.{proofs.ReadingLaws.{all_declared, decl_shrinks, none_declared, one_declared}, proofs.StepLaws.{decl_passed, proper_rest}}
use Rattle.mini_syntax.proofs.reading.declarations.Goals as goal

pub loop-sort-init : goal.loop-sort-init
loop-sort-init g c = record {
  scope = λ name. ap (λ (table : Entries Variable). look_up table name) c.keyed.ensures
      ∙ sym (ap (λ (ds : List Declared). variable_named ds name) c.new.ensures.items);
  awaits = c.requires.awaits;
  named = c.requires.named;
  few = omega arith;
  read = none_declared c.new.result.items (left_of c.args.cursor.now) c.args.best.now c.new.ensures.items;
}

pub declaration-requires-clause-begun : goal.declaration-requires-clause-begun
declaration-requires-clause-begun g c = c.in-Some.ensures ∙ ap sort_declared c.kind.ensures

pub declaration-requires-clause-few : goal.declaration-requires-clause-few
declaration-requires-clause-few g c = omega (arith, c.loop-sort.invariant.few)

pub loop-sort-preserved : goal.loop-sort-preserved
loop-sort-preserved g c =
    let three = decl_shrinks c.in_ok-declaration.ensures.read in
    let pushed : length c.declaration.new.scope.declared.items ≡ length
    (c.loop-sort.scope.declared.items ++ declared_by c.in_ok-declaration.ensures.read.tree ∷ []) =
    ap length c.in_ok-declaration.ensures.read.declared in
    record {
      scope = c.in_ok-declaration.ensures.scope;
      awaits = decl_passed c.loop-sort.invariant.awaits c.in_ok-declaration.ensures.read;
      named = proper_rest (decl_tokens c.in_ok-declaration.ensures.read.tree) (left_of c.loop-sort.cursor) (left_of c.declaration.new.cursor)
          c.loop-sort.invariant.named c.in_ok-declaration.ensures.read.tokens_are;
      few = omega (
        arith,
        three,
        pushed,
        length-append c.loop-sort.scope.declared.items (declared_by c.in_ok-declaration.ensures.read.tree ∷ []),
        c.loop-sort.invariant.few,
      );
      read = one_declared c.loop-sort.scope.declared.items c.declaration.new.scope.declared.items (left_of c.args.cursor.now)
          (left_of c.loop-sort.cursor) (left_of c.declaration.new.cursor)
          c.args.best.now c.loop-sort.best c.declaration.new.best c.loop-sort.invariant.read c.in_ok-declaration.ensures.read;
    }

pub loop-sort-smaller : goal.loop-sort-smaller
loop-sort-smaller g c = let three = decl_shrinks c.in_ok-declaration.ensures.read in omega (arith, three)

pub returns-clause-read : goal.returns-clause-read
returns-clause-read g c =
    all_declared c.loop-sort.scope.declared.items (left_of c.args.cursor.now) (left_of c.loop-sort.cursor) c.args.best.now c.loop-sort.best
    c.loop-sort.invariant.read
    (λ st k. no_declaration st (left_of c.loop-sort.cursor) (c.in_default.ensures ∙ ap sort_declared c.kind.ensures) k)
