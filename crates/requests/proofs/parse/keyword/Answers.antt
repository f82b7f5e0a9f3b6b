use Rattle.std.proofs.Common.{arith, rules}
use Rattle.requests.specs.declared.requests.Keyword.TheVariants.{Room, Feed, Text, Tick, Painted, Waiting, Cell, Cursor, Window, User, Macro, Lamp, Modes, Glass, Show, Items, Replay}
use Rattle.requests.proofs.Asking.{read_as}
use Rattle.requests.proofs.parse.keyword.Goals as goal

pub returns-in-room : goal.returns-in-room
returns-in-room c = read_as c.args.word.now Room (omega arith) (search rules)

pub returns-in-feed : goal.returns-in-feed
returns-in-feed c = read_as c.args.word.now Feed (omega arith) (search rules)

pub returns-in-116 : goal.returns-in-116
returns-in-116 c = read_as c.args.word.now Text (omega arith) (search rules)

pub returns-in-tick : goal.returns-in-tick
returns-in-tick c = read_as c.args.word.now Tick (omega arith) (search rules)

pub returns-in-painted : goal.returns-in-painted
returns-in-painted c = read_as c.args.word.now Painted (omega arith) (search rules)

pub returns-in-waiting : goal.returns-in-waiting
returns-in-waiting c = read_as c.args.word.now Waiting (omega arith) (search rules)

pub returns-in-cell : goal.returns-in-cell
returns-in-cell c = read_as c.args.word.now Cell (omega arith) (search rules)

pub returns-in-cursor : goal.returns-in-cursor
returns-in-cursor c = read_as c.args.word.now Cursor (omega arith) (search rules)

pub returns-in-window : goal.returns-in-window
returns-in-window c = read_as c.args.word.now Window (omega arith) (search rules)

pub returns-in-user : goal.returns-in-user
returns-in-user c = read_as c.args.word.now User (omega arith) (search rules)

pub returns-in-macro : goal.returns-in-macro
returns-in-macro c = read_as c.args.word.now Macro (omega arith) (search rules)

pub returns-in-lamp : goal.returns-in-lamp
returns-in-lamp c = read_as c.args.word.now Lamp (omega arith) (search rules)

pub returns-in-modes : goal.returns-in-modes
returns-in-modes c = read_as c.args.word.now Modes (omega arith) (search rules)

pub returns-in-glass : goal.returns-in-glass
returns-in-glass c = read_as c.args.word.now Glass (omega arith) (search rules)

pub returns-in-show : goal.returns-in-show
returns-in-show c = read_as c.args.word.now Show (omega arith) (search rules)

pub returns-in-items : goal.returns-in-items
returns-in-items c = read_as c.args.word.now Items (omega arith) (search rules)

pub returns-in-replay : goal.returns-in-replay
returns-in-replay c = read_as c.args.word.now Replay (omega arith) (search rules)
