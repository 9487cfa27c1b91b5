-- The standard streams, each by the descriptor that it has when a program starts.
-- Source: stdin(3).
use Rattle.std.specs.Prelude.{ℕ, List, map}
use Rattle.emu_top.specs.declared.streams.Stream.{Stream}
use Rattle.emu_top.specs.declared.streams.Stream.TheVariants.{Input, Output, Error}
use Rattle.emu_top.specs.declared.streams.StreamDevice.{StreamDevice}

abbrev pub descriptor_of : Stream → ℕ
descriptor_of (Input stream) = 0
descriptor_of (Output stream) = 1
descriptor_of (Error stream) = 2

-- the streams of devices
abbrev pub descriptors : List StreamDevice → List ℕ
descriptors devices = map (λ (device : StreamDevice). descriptor_of device.stream) devices
