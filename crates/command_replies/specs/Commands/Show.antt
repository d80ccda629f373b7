-- The command `show`.
use Rattle.std.specs.Prelude.{ℕ, List, Result, Ok, Err}
use Rattle.fm_image.specs.{Image.{ImageOf}, Reading.{read_of}}
use Rattle.fm_show.specs.ImageListing.{image_listing}
use Rattle.command_replies.specs.{declared.reply.Verdict.TheVariants.{Image}, Replies.{ReplyOf, verdict_alone, all_said}}

-- the listing of an image, or the rule that the file breaks, and where
abbrev pub listing_reply : Result ImageOf (ℕ × ℕ) → ReplyOf
listing_reply (Err fault) = verdict_alone (Image fault.0 fault.1)
listing_reply (Ok image) = all_said (image_listing image)

-- the listing of the image that these bytes spell
abbrev pub show_reply : List ℕ → ReplyOf
show_reply bytes = listing_reply (read_of bytes)
