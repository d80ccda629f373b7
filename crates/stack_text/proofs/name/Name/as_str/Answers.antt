use Rattle.std.{proofs.Common.{sym, subst}, specs.Str.IsAscii, proofs.lemmas.Str.IsUtf8-from_ascii}
use Rattle.stack_text.proofs.AtomLaws.{name_is_ascii}
use Rattle.stack_text.proofs.name.Name.as_str.Goals as goal

pub unreachable-requires : goal.unreachable-requires
unreachable-requires c =
    c.in-Err.ensures.cases.0 (IsUtf8-from_ascii c.bytes.result.now
    (subst IsAscii (sym c.bytes.ensures.bytes) (name_is_ascii c.args.self.now c.bytes.ensures.name)))
