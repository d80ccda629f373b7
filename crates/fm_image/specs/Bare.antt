-- Images that have a window, registers and words alone.
use Rattle.std.specs.Prelude.{ℕ, List, [], None}
use Rattle.fm_words.specs.Code.{no_flags}
use Rattle.fm_image.specs.{Image.{ImageOf}, Limits.{marked_version}}

-- the image of this window, these registers and these words, with nothing else: no flag is set, and there is no condition word, no
-- name of a condition, no slot, no procedure and no mark
abbrev pub bare_image : (base size final_pc : ℕ) (registers words : List ℕ) → ImageOf
bare_image base size final_pc registers words = record {
  version = marked_version;
  base = base;
  size = size;
  final_pc = final_pc;
  registers = registers;
  flags = no_flags;
  condition_address = None;
  conditions = [];
  slots = [];
  words = words;
  procedures = [];
  marks = [];
}
