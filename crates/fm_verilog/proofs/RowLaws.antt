-- The rows of a choice, one after another.
use Rattle.std.{proofs.Common.{◌≡◌, ℕ, ◌+◌, ◌<◌, ◌≤◌, List, ◌++◌, length, drop, get_or, sym, ap, ◌∙◌, append-nil, append_assoc}, proofs.lemmas.List.drop_all}
use Rattle.fm_circuit.specs.declared.circuit.Pin.{Pin}
use Rattle.stack_text.proofs.Loops.{drop-item}
use Rattle.fm_verilog.specs.VerilogText.{row_text, rows_text}

-- one row more
pub rows_next : (by : Pin) (pins : List Pin) (i : ℕ) (pin : Pin) (old new all : List ℕ) → i < length pins → pin ≡ get_or pins i pin
    → new ≡ old ++ row_text by i pin → old ++ rows_text by i (drop i pins) ≡ all → new ++ rows_text by (i + 1) (drop (i + 1) pins) ≡ all
unfolding rows_text
rows_next by pins i pin old new all lt is more so_far =
    rw more (append_assoc old (row_text by i pin) (rows_text by (i + 1) (drop (i + 1) pins)))
    ∙ ap (λ (ps : List Pin). old ++ rows_text by i ps) (sym (drop-item pins i pin lt is)) ∙ so_far

-- no row is left
pub rows_end : (by : Pin) (pins : List Pin) (i : ℕ) (text all : List ℕ) → length pins ≤ i → text ++ rows_text by i (drop i pins) ≡ all → text ≡ all
unfolding rows_text
rows_end by pins i text all past so_far =
    sym (ap (λ (ps : List Pin). text ++ rows_text by i ps) (drop_all i pins past) ∙ append-nil text) ∙ so_far
