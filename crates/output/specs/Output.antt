-- The output of steps: frames to send, datagrams for the other gateway, and notes.
use Rattle.std.specs.Prelude.{ℕ, zero, suc, ◌≤◌, ◌+◌, ◌*◌, List, [], ◌∷◌, ◌++◌, length}
use Rattle.nat_types.specs.declared.gateways.Side.{Side}
use Rattle.nat_types.specs.declared.notes.Note.{Note}
use Rattle.output.specs.declared.pages.Room.{Room}

-- a frame to send, and the side on which it goes out
pub record Sent : Type 0 where
  pub side : Side
  pub bytes : List ℕ

-- the output: frames, datagrams and notes, each in order
pub record Output : Type 0 where
  pub frames : List Sent
  pub datagrams : List (List ℕ)
  pub notes : List Note

abbrev pub none_told : Output
none_told = record { frames = []; datagrams = []; notes = [] }

-- the output with one frame more
abbrev pub with_frame : Output → Side → List ℕ → Output
with_frame told side bytes =
    record told { frames = told.frames ++ (record { side = side; bytes = bytes }) ∷ [] }

-- the output with one datagram more
abbrev pub with_datagram : Output → List ℕ → Output
with_datagram told bytes = record told { datagrams = told.datagrams ++ bytes ∷ [] }

-- the output with one note more
abbrev pub with_note : Output → Note → Output
with_note told note = record told { notes = told.notes ++ note ∷ [] }

-- the frames of these sides and bytes
abbrev pub sent : List Side → List (List ℕ) → List Sent
sent [] strings = []
sent (side ∷ sides) [] = []
sent (side ∷ sides) (bytes ∷ strings) =
    record { side = side; bytes = bytes } ∷ sent sides strings

-- the frames, of which the one at an index has changed bytes
abbrev pub changed_at : ℕ → (List ℕ → List ℕ) → List Sent → List Sent
changed_at k change [] = []
changed_at zero change (f ∷ frames) = record f { bytes = change f.bytes } ∷ frames
changed_at (suc k) change (f ∷ frames) = f ∷ changed_at k change frames

-- the output with these frames
abbrev pub with_frames : Output → List Sent → Output
with_frames told frames = record told { frames = frames }

-- how many bytes all frames have together
abbrev pub octet_count : List Sent → ℕ
octet_count [] = 0
octet_count (f ∷ frames) = length f.bytes + octet_count frames

abbrev pub no_room : Room
no_room = record { frames = 0; octets = 0; datagrams = 0; notes = 0 }

-- one capacity is within another: no more frames, octets, datagrams or notes
pub record IsWithin (room more : Room) : Type 0 where
  pub frames : room.frames ≤ more.frames
  pub octets : room.octets ≤ more.octets
  pub datagrams : room.datagrams ≤ more.datagrams
  pub notes : room.notes ≤ more.notes

-- the model of an output buffer: the output so far, and the capacity that is left
pub record Paged : Type 0 where
  pub told : Output
  pub room : Room

-- the buffer while its list of notes is taken out
abbrev pub without_notes : Paged → Paged
without_notes page =
    record { told = record page.told { notes = [] }; room = record page.room { notes = 0 } }

-- there is capacity for count strings of up to longest bytes, and for so many bytes more
pub record HasRoom (count longest more places octets : ℕ) : Type 0 where
  pub each : count ≤ places
  pub whole : longest * count + more ≤ octets
