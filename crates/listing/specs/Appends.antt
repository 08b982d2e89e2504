-- Bytes written after those of a text. Assumes nothing.
use Rattle.std.specs.Prelude.{ℕ, ◌≡◌, List}
use Rattle.listing.specs.Wrote.{Wrote}
use Rattle.listing.specs.declared.text.Text.{Text}

-- the text has the bytes too, in the same lent buffer
pub record Appends (before : Text) (bytes : List ℕ) (after : Text) : Type 0 where
  pub same_buffer : after.buffer.ghost_name ≡ before.buffer.ghost_name
  pub wrote : Wrote before.buffer.now before.written bytes after.buffer.now after.written
