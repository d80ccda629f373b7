use Rattle.std.{proofs.Common.{◌≡◌, ◌≤◌, ◌++◌, ◌∷◌, [], ℕ, List, Bool, true, false, cond, length, sym, subst}, specs.Prelude.{All, is_ok}}
use Rattle.std.proofs.lemmas.List.Elements.{All-push}
use Rattle.command_line.{specs.declared.role.Role.Role, specs.Roles.limit_of}
use Rattle.command_line.proofs.texts.Texts.push.Goals as goal

abbrev IsWithin : Role × List ℕ → Type 0
IsWithin text = length text.1 ≤ limit_of text.0

-- one more text, or the same ones
kept : (b : Bool) (xs ys : List (Role × List ℕ)) (text : Role × List ℕ) → ys ≡ cond b (xs ++ text ∷ []) xs → All IsWithin xs → IsWithin text → All IsWithin ys
kept true xs ys text e all one = subst (All IsWithin) (sym e) (All-push IsWithin xs text all one)
kept false xs ys text e all one = subst (All IsWithin) (sym e) all

pub invariant_of-self : goal.invariant_of-self
invariant_of-self g c = kept (is_ok c.push.result) c.self.inside.texts.items c.push.new.items.items (c.args.role, c.args.text) c.push.ensures.items
    c.self.invariant c.requires
