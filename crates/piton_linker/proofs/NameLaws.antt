-- What the pieces of placed code name is in the system.
use Rattle.std.{proofs.Common.{◌≡◌, ℕ, zero, suc, ◌+◌, ◌<◌, Some, List, [], ◌∷◌, ◌++◌, length, map, take, sym, ap, ◌∙◌, arith}, specs.Prelude.get_or}
use Rattle.std.{specs.Prelude.{slice_get, replicate}, proofs.lemmas.Option.slice_get-get_or}
use Rattle.piton_semantics.{specs.Placed.addresses_of, specs.Templates.{operation_code, word_piece, code_pieces, literal_pieces, pieces_of, temporary_pieces}}
use Rattle.piton_semantics.{specs.Templates.{prelude_pieces, word_of, words_of}, specs.Fits.{Each, IsPlace, IsWordOf, IsInstructionOf}}
use Rattle.piton_semantics.proofs.EachLaws.{each_append}
use Rattle.piton_words.{specs.declared.word.Word.Word, specs.declared.word.Word.TheVariants.{Int, Nat, Bitv, Bool as Truth, Addr, Pc, Subr}}
use Rattle.fm_code.specs.InstructionWords.{mov, push, pop, literal}
use Rattle.piton_check.specs.Instruction as i
use Rattle.piton_check.{specs.Instruction.{Instruction, ProgramView, SystemView}, specs.declared.piece.Piece.Piece, specs.declared.piece.Piece.TheVariants.Code}
use Rattle.piton_check.specs.declared.piece.Piece.TheVariants.{Place}
use Rattle.piton_linker.specs.Tables.{PieceExists}

pub word_named : (s : SystemView) (w : Word) → IsWordOf s w → PieceExists s (word_piece w)
word_named s (Int z) h = tt
word_named s (Nat n) h = tt
word_named s (Bitv n) h = tt
word_named s (Truth b) h = tt
word_named s (Addr area offset) h = h
word_named s (Pc program place) h = h
word_named s (Subr program) h = h

codes_named : (s : SystemView) (words : List ℕ) → Each (PieceExists s) (code_pieces words)
codes_named s [] = tt
codes_named s (w ∷ words) = (tt, codes_named s words)

places_named : (s : SystemView) (program : ℕ) (places : List ℕ) → Each (IsPlace s program) places → Each (PieceExists s) (map (λ to. Place program to) places)
places_named s program [] h = tt
places_named s program (to ∷ places) h = (h.0, places_named s program places h.1)

pub pieces_named : (s : SystemView) (program place locals : ℕ) (instruction : Instruction) → IsInstructionOf s program place instruction
    → Each (PieceExists s) (pieces_of program place locals instruction)
pieces_named s program place locals (i.PushConstant w) h = (tt, (word_named s w h.0, tt))
pieces_named s program place locals (i.PushLocal k) h = (tt, (tt, (tt, (tt, tt))))
pieces_named s program place locals (i.PopLocal k) h = (tt, (tt, (tt, (tt, tt))))
pieces_named s program place locals (i.SetLocal k) h = (tt, (tt, (tt, (tt, tt))))
pieces_named s program place locals (i.PushGlobal a) h = (tt, (h.0, (tt, tt)))
pieces_named s program place locals (i.PopGlobal a) h = (tt, (h.0, (tt, tt)))
pieces_named s program place locals (i.SetGlobal a) h = (tt, (h.0, (tt, tt)))
pieces_named s program place locals (i.PushTempStkIndex n) h = (tt, (tt, (tt, (tt, tt))))
pieces_named s program place locals i.PushTempStkFreeSize h = (tt, (tt, (tt, (tt, tt))))
pieces_named s program place locals i.PushCtrlStkFreeSize h = (tt, (tt, (tt, (tt, tt))))
pieces_named s program place locals i.FetchTempStk h = (tt, (tt, (tt, (tt, tt))))
pieces_named s program place locals i.DepositTempStk h = (tt, (tt, (tt, (tt, tt))))
pieces_named s program place locals i.Fetch h = (tt, (tt, tt))
pieces_named s program place locals i.Deposit h = (tt, (tt, tt))
pieces_named s program place locals i.Pop h = (tt, tt)
pieces_named s program place locals (i.PopStar n) h = (tt, (tt, tt))
pieces_named s program place locals i.Popn h = (tt, (tt, tt))
pieces_named s program place locals i.NoOp h = (tt, tt)
pieces_named s program place locals (i.Jump to) h = (tt, (h, tt))
pieces_named s program place locals (i.JumpIfTempStkFull to) h = (tt, (tt, (tt, (tt, (h.0, tt)))))
pieces_named s program place locals (i.JumpIfTempStkEmpty to) h = (tt, (tt, (tt, (tt, (h.0, tt)))))
pieces_named s program place locals (i.JumpCase places) h = (tt, (tt, (tt, (tt, places_named s program places h.1))))
pieces_named s program place locals (i.Pushj to) h = (tt, (h.1, (tt, (h.0, tt))))
pieces_named s program place locals i.Popj h = (tt, tt)
pieces_named s program place locals (i.TestAndJump family kind to) h = (tt, (tt, (h.0, tt)))
pieces_named s program place locals (i.Call callee) h = (tt, (h.1, (tt, (h.0, tt))))
pieces_named s program place locals i.PopCall h = (tt, (tt, (h, (tt, tt))))
pieces_named s program place locals i.Ret h = (tt, (tt, (tt, (tt, (tt, tt)))))
pieces_named s program place locals (i.Apply o) h = codes_named s (operation_code o)

temporaries_named : (s : SystemView) (ws : List Word) → Each (IsWordOf s) ws → Each (PieceExists s) (temporary_pieces ws)
temporaries_named s [] h = tt
temporaries_named s (w ∷ ws) h =
    each_append (PieceExists s) (temporary_pieces ws) (literal_pieces (mov (push 1) literal) (word_piece w)) (temporaries_named s ws h.1)
    (tt, (word_named s w h.0, tt))

formals_named : (s : SystemView) (n word : ℕ) → Each (PieceExists s) (replicate n (Code word))
formals_named s zero word = tt
formals_named s (suc n) word = (tt, formals_named s n word)

pub prelude_named : (s : SystemView) (p : ProgramView) → Each (IsWordOf s) p.temporaries → Each (PieceExists s) (prelude_pieces p)
prelude_named s p h =
    let formals = replicate p.formals (Code (mov (push 1) (pop 2))) in (
      tt,
      each_append (PieceExists s) (temporary_pieces p.temporaries) _ (temporaries_named s p.temporaries h)
          (each_append (PieceExists s) formals _ (formals_named s p.formals _) (tt, tt)),
    )

-- one piece more
pub words_more : (s : SystemView) (a k : ℕ) (ps : List Piece) (p : Piece) → slice_get ps k ≡ Some p
    → words_of (addresses_of s) a (take (k + 1) ps) ≡ words_of (addresses_of s) a (take k ps) ++ word_of (addresses_of s) (a + k) p ∷ []
words_more s a k [] p h = cc
words_more s a zero (q ∷ ps) p h =
    let same : q ≡ p = cc in
    let at : a ≡ a + 0 = omega arith in
    λ t. word_of (addresses_of s) (at t) (same t) ∷ []
words_more s a (suc k) (q ∷ ps) p h =
    let count : suc k + 1 ≡ suc (k + 1) = omega arith in
    let at : a + 1 + k ≡ a + suc k = omega arith in
    ap (λ n. words_of (addresses_of s) a (take n (q ∷ ps))) count
    ∙ ap (λ ws. word_of (addresses_of s) a q ∷ ws)
    (words_more s (a + 1) k ps p h ∙ ap (λ b. words_of (addresses_of s) (a + 1) (take k ps) ++ word_of (addresses_of s) b p ∷ []) at)

pub words_more_at : (s : SystemView) (a k : ℕ) (ps : List Piece) (d : Piece) → k < length ps
    → words_of (addresses_of s) a (take (k + 1) ps) ≡ words_of (addresses_of s) a (take k ps) ++ word_of (addresses_of s) (a + k) (get_or ps k d) ∷ []
words_more_at s a k ps d lt = words_more s a k ps (get_or ps k d) (slice_get-get_or ps k d lt)

pub words_more_by : (s : SystemView) (a k at w : ℕ) (ps : List Piece) (d : Piece) → w ≡ word_of (addresses_of s) at (get_or ps k d) → at ≡ a + k
    → k < length ps → words_of (addresses_of s) a (take k ps) ++ w ∷ [] ≡ words_of (addresses_of s) a (take (k + 1) ps)
words_more_by s a k at w ps d e here lt =
    ap (λ v. words_of (addresses_of s) a (take k ps) ++ v ∷ []) (e ∙ ap (λ b. word_of (addresses_of s) b (get_or ps k d)) here)
    ∙ sym (words_more_at s a k ps d lt)
