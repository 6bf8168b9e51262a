-- The readers, the writer and the notes of a board may go to other threads, as the copies that they read and write may.
use denote.RattleType.{RattleType}
use denote.Struct.Declared as declared
use denote.Struct.Declared.{Declared}
use denote.Struct.Field.{unit-field}
use denote.Struct.Struct.{Struct}
use denote.Param.Send.{IsSend, IsSync, struct_send, recorded_send, view_send, sendable}
use Rattle.std.proofs.Crossing.{crosses, send, frees}
use Rattle.std.specs.contracts.option.Option as Option
use Rattle.std.specs.contracts.alloc.Global as Heap
use Rattle.std.specs.contracts.impls.GlobalAllocator.TheImpl.{ghosts}
use Rattle.crossbeam_utils.specs.declared.rule.Protocol.{Ghosts}
use Rattle.atomic_table.proofs.shared.Shared.TheSendSync as shared
use Rattle.atomic_table.proofs.shared.Seat.TheSendSync as seat
use Rattle.atomic_table.proofs.send_lease.SendLease.TheSendSync as lease
use Rattle.left_right.specs.contracts.part.Part as Part
use Rattle.left_right.specs.contracts.part.Deed as Deed
use Rattle.left_right.specs.contracts.reader.Factory as Factory
use Rattle.left_right.specs.contracts.reader.Reader as Reader
use Rattle.left_right.specs.contracts.desk.Desk as Desk
use Rattle.left_right.specs.contracts.writer.Writer as Writer
use Rattle.left_right.specs.declared.Absorb as Absorb
use Rattle.left_right.proofs.part.Part.TheSendSync as part
use Rattle.left_right.proofs.part.Deed.TheSendSync as deed
use Rattle.logbook.proofs.word.Word.TheSendSync as word
use Rattle.cw_board.specs.declared.history.BoardNaming as Naming
use Rattle.cw_board.specs.contracts.press.Press as Press
use Rattle.cw_board.specs.contracts.press.OfBoard as OfBoard
use Rattle.cw_board.specs.contracts.shelves.Post as Post
use Rattle.cw_board.specs.contracts.shelves.Shelves as Shelves
use Rattle.cw_board.specs.contracts.shelves.ShelvesAbsorbPost.TheImpl as absorbs
use Rattle.cw_board.specs.contracts.reader.Board as Board
use Rattle.cw_board.specs.contracts.writer.BoardWriter as BoardWriter
use Rattle.cw_board.specs.contracts.writer.Note as Note
use Rattle.cw_board.proofs.Histories.{front_send, post_send, shelves_send, shelves_sync}

-- a struct may go where it may as a field
as_field : (T : Declared) → IsSend (declared.field T).row → IsSend (declared.row T)
as_field T s = recorded_send (Struct (declared.shape T)) T.D T.to T.to_one s

-- ---- two copies of a value

module _ (T : RattleType) (s : IsSend T) (y : IsSync T) where
  slot_send : IsSend (Option.the_row (Part.the_row T))
  slot_send = search (sendable, part.the_send, y) depth 12

  part_send : IsSend (Part.the_row T)
  part_send = part.the_send T y

  deed_send : IsSend (Deed.the_row T Heap.the_row ghosts)
  deed_send = deed.the_send T Heap.the_row ghosts s send frees

  module _ (P : RattleType) (p : Ghosts P.Denot T.Denot (unit-field.row).Denot) where
    factory_field : IsSend (Factory.the_field T unit-field.row P Heap.the_row p ghosts).row
    factory_field = search (sendable, crosses, slot_send, shared.the_send, shared.the_sync, lease.the_send, lease.the_sync) depth 24

    reader_field : IsSend (Reader.the_field T unit-field.row P Heap.the_row p ghosts).row
    reader_field = search (sendable, factory_field, slot_send, seat.the_send) depth 16

    desk_field : IsSend (Desk.the_field T unit-field.row P Heap.the_row p ghosts).row
    desk_field = search (sendable, crosses, factory_field, slot_send, seat.the_send, deed_send, part_send) depth 16

module _ (T O S P : RattleType) (s : IsSend T) (y : IsSync T) (o : IsSend O) (a : Absorb.Ghosts T.Denot O.Denot S.Denot)
    (p : Ghosts P.Denot T.Denot (unit-field.row).Denot) where
  writer_field : IsSend (Writer.the_field T O unit-field.row P Heap.the_row S a p ghosts).row
  writer_field = search (sendable, crosses, desk_field, s, y, o) depth 16

  writer_row : IsSend (Writer.the_row T O unit-field.row P Heap.the_row S a p ghosts)
  writer_row = as_field (Writer.the_type T O unit-field.row P Heap.the_row S a p ghosts) writer_field

-- ---- a board

module _ (J : RattleType) (g : Naming.Ghosts J.Denot) where
  board_inside : IsSend (Board.TheInside.the_row J g)
  board_inside = search (sendable, reader_field, front_send, shelves_send, shelves_sync) depth 12

  pub of_board : IsSend (Board.the_row J g)
  of_board = search (sendable, board_inside) depth 5

  note_inside : IsSend (Note.TheInside.the_row J g)
  note_inside = search (sendable, front_send) depth 12

  pub of_note : IsSend (Note.the_row J g)
  of_note = search (sendable, note_inside) depth 5

-- the two copies of a board
module _ (P : RattleType) (p : Ghosts P.Denot (Shelves.the_row).Denot (unit-field.row).Denot) where
  copies_row : IsSend (Writer.the_row Shelves.the_row Post.the_row unit-field.row P Heap.the_row Shelves.the_row absorbs.ghosts p ghosts)
  copies_row = writer_row Shelves.the_row Post.the_row Shelves.the_row P shelves_send shelves_sync post_send absorbs.ghosts p

  home_field : IsSend (Option.the_field (Writer.the_row Shelves.the_row Post.the_row unit-field.row P Heap.the_row Shelves.the_row absorbs.ghosts p ghosts)).row
  home_field = search (sendable, copies_row) depth 8

module _ (J R : RattleType) (g : Naming.Ghosts J.Denot) (r : IsSend R) where
  press_inside : IsSend (Press.TheInside.the_row J R g)
  press_inside = as_field (Press.TheInside.the_type J R g) (struct_send (declared.shape (Press.TheInside.the_type J R g)) (home_field _ _, (r, tt)))

  press_send : IsSend (Press.the_row J R g)
  press_send = view_send (Press.TheInside.the_row J R g) _ _ _ _ press_inside

  writer_inside : IsSend (BoardWriter.TheInside.the_row J R g)
  writer_inside = search (sendable, press_send, front_send, post_send, word.the_send) depth 16

  pub of_writer : IsSend (BoardWriter.the_row J R g)
  of_writer = view_send (BoardWriter.TheInside.the_row J R g) _ _ _ _ writer_inside
