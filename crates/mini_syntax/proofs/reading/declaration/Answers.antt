use Rattle.std.{proofs.Common.{◌≡◌, ◌==◌, ℕ, Bool, [], ◌∷◌, ◌++◌, List, length, Some, is_some, refl, sym, ap, ◌∙◌, arith}, proofs.lemmas.Result.on_ok_weaker}
use Rattle.stack_text.specs.Breaches.{least, lesser_of, when}
use Rattle.mini_syntax.{specs.declared.expected.Expected.Expected, specs.Grammar.Decl, specs.Internal.Lexemes.{left_of, next_kind, token_seen}}
use Rattle.mini_syntax.{proofs.AwaitLaws.sort_is, proofs.StepLaws.{after_kind, decl_noted, decl_tokens_read, first_awaited, kind_next, name_is, proper_name}}
use Rattle.mini_syntax.{proofs.StepLaws.{proper_rest, token_left}, proofs.VariableLaws.name_made}
use Rattle.mini_syntax.specs.declared.expected.Expected.TheVariants as wants
use Rattle.mini_syntax.specs.declared.lexer.TokenKind.TheVariants as kind
use Rattle.mini_syntax.specs.declared.mark.Mark.TheVariants as mark
use Rattle.mini_syntax.specs.declared.word.Word.TheVariants as word
use Rattle.mini_syntax.proofs.reading.declaration.Goals as goal

abbrev more : List Expected
more = wants.MoreDeclarations ∷ []

abbrev after_name : List Expected
after_name = wants.Mark mark.Semicolon ∷ more

pub next-variable-requires : goal.next-variable-requires
next-variable-requires g c =
    let k = kind_next c.next.result (kind.Word (word.Sort c.args.sort)) c.next.ensures
    (sort_is c.args.sort (next_kind (left_of c.args.cursor.now)) c.requires.begun) in
    token_left (after_kind more (wants.Name ∷ after_name) c.next.result (kind.Word (word.Sort c.args.sort)) c.requires.awaits c.next.ensures k
    (λ rest. refl)) refl

pub mark-requires : goal.mark-requires
mark-requires g c =
    let k = kind_next c.next.result (kind.Word (word.Sort c.args.sort)) c.next.ensures
    (sort_is c.args.sort (next_kind (left_of c.args.cursor.now)) c.requires.begun) in
    let named = after_kind more (wants.Name ∷ after_name) c.next.result (kind.Word (word.Sort c.args.sort)) c.requires.awaits c.next.ensures k (λ rest. refl) in
    first_awaited (wants.Mark mark.Semicolon) more
    (after_kind (wants.Name ∷ after_name) after_name c.next-variable.result kind.Name named c.next-variable.ensures
    (name_is c.next-variable.result named c.next-variable.ensures) (λ rest. refl))

pub unreachable-requires : goal.unreachable-requires
unreachable-requires g c =
    let k = kind_next c.next.result (kind.Word (word.Sort c.args.sort)) c.next.ensures
    (sort_is c.args.sort (next_kind (left_of c.args.cursor.now)) c.requires.begun) in
    let named = after_kind more (wants.Name ∷ after_name) c.next.result (kind.Word (word.Sort c.args.sort)) c.requires.awaits c.next.ensures k (λ rest. refl) in
    let rest = proper_rest (token_seen c.next.result ∷ []) (left_of c.args.cursor.now) (left_of c.next.new.self) c.requires.named c.next.ensures in
    let proper = proper_name c.next-variable.result (left_of c.next.new.self) rest c.next-variable.ensures
    (name_is c.next-variable.result named c.next-variable.ensures) in
    let both = sym (name_made c.next-variable.result.bytes.now proper) ∙ c.in_ok-name.ensures ∙ c.in-None.is in
    cc

pub returns-clause-read : goal.returns-clause-read
returns-clause-read g c =
    let k = kind_next c.next.result (kind.Word (word.Sort c.args.sort)) c.next.ensures
    (sort_is c.args.sort (next_kind (left_of c.args.cursor.now)) c.requires.begun) in
    let named = after_kind more (wants.Name ∷ after_name) c.next.result (kind.Word (word.Sort c.args.sort)) c.requires.awaits c.next.ensures k (λ rest. refl) in
    let n = name_is c.next-variable.result named c.next-variable.ensures in
    let rest = proper_rest (token_seen c.next.result ∷ []) (left_of c.args.cursor.now) (left_of c.next.new.self) c.requires.named c.next.ensures in
    let proper = proper_name c.next-variable.result (left_of c.next.new.self) rest c.next-variable.ensures n in
    let bytes = c.next-variable.result.bytes.now in
    let both : Some bytes ≡ Some c.in-Some.name = sym (name_made bytes proper) ∙ c.in_ok-name.ensures ∙ c.in-Some.is in
    let same : bytes ≡ c.in-Some.name = cc in
    let ds = c.args.scope.now.declared.items in
    let place = c.next-variable.result.place in
    let count : c.len.result ≡ length ds = omega (arith, c.args.scope.now.declared.ok.0, c.len.ensures) in
    let tree : Decl = record { start = c.next.result.place; sort = c.args.sort; place = place; name = bytes; closing = c.mark.result } in
    on_ok_weaker c.enter.result (λ pushed. record {
      tree = tree;
      tokens_are = decl_tokens_read c.next.result c.next-variable.result c.args.sort c.mark.result c.next.ensures k c.next-variable.ensures n c.mark.ensures;
      declared = pushed ∙ ap (λ (name : List ℕ). ds ++ record { name = name; sort = c.args.sort } ∷ []) (sym same);
      noted = decl_noted ds tree c.args.best.now c.note_if.new.best c.note_if-2.new.best
          (c.note_if.ensures ∙ ap (λ (b : Bool). lesser_of c.args.best.now (least (when b place 5))) (c.is_some.ensures ∙ ap is_some c.named.ensures))
          (c.note_if-2.ensures ∙ ap (λ (m : ℕ). lesser_of c.note_if.new.best (least (when (m == 100) place 9))) count);
    }) c.enter.ensures.declared
