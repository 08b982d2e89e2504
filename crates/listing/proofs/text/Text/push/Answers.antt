-- `Text::push` meets its contract. Assumes nothing.
use Rattle.std.proofs.Common.{refl}
use Rattle.listing.proofs.Buffers.{wrote_part}
use Rattle.listing.proofs.text.Text.push.Goals as goal

pub returns : goal.returns
returns c = record {
  same_buffer = refl;
  wrote = wrote_part c.args.self.now.buffer.now c.args.bytes.now _ c.args.self.now.written c.min-end.result c.args.self.now.inside c.min-end.ensures c.copy_from_slice.ensures.after;
}
