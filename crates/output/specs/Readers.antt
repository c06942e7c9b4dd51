-- The model of a frame that an iterator lends.
use Rattle.output.specs.declared.readers.Frame.{Frame}
use Rattle.output.specs.Output.{Sent}

abbrev pub sent_of : Frame → Sent
sent_of frame = record { side = frame.side; bytes = frame.bytes.now }
