use Rattle.line_forms.specs.declared.keyword.Keyword.TheVariants.{Create, Call, Return, Serve, Revoke, Bind, Unbind, Info, GetParam, SetParam, Cred, TestCancel, Exit, Close, Dup, Attach, Detach, Open, Await, Pipe, Write, Read, PortCreate, Associate, Dissociate, Get, GetN, Send, SendN, Alert, TimerCreate, TimerSet, TimerDelete, Advance, Interrupt, Kill, Fork, Work, Ncd, Repeat, If, End}
use Rattle.line_reader.proofs.ByKeyword.{at_keyword}
use Rattle.line_reader.proofs.operands.Operands.line.Goals as goal

pub returns-in-Create : goal.returns-in-Create
returns-in-Create c = at_keyword c.args.tables.now c.args.process c.args.self.now c.create_line.result c.create_line.new.self _ Create c.in-Create.is c.create_line.ensures

pub returns-in-Call : goal.returns-in-Call
returns-in-Call c = at_keyword c.args.tables.now c.args.process c.args.self.now c.call_line.result c.call_line.new.self _ Call c.in-Call.is c.call_line.ensures

pub returns-in-Return : goal.returns-in-Return
returns-in-Return c = at_keyword c.args.tables.now c.args.process c.args.self.now c.return_line.result c.return_line.new.self _ Return c.in-Return.is c.return_line.ensures

pub returns-in-Serve : goal.returns-in-Serve
returns-in-Serve c = at_keyword c.args.tables.now c.args.process c.args.self.now c.serve_line.result c.args.self.now _ Serve c.in-Serve.is c.serve_line.ensures

pub returns-in-Revoke : goal.returns-in-Revoke
returns-in-Revoke c = at_keyword c.args.tables.now c.args.process c.args.self.now c.revoke_line.result c.revoke_line.new.self _ Revoke c.in-Revoke.is c.revoke_line.ensures

pub returns-in-Bind : goal.returns-in-Bind
returns-in-Bind c = at_keyword c.args.tables.now c.args.process c.args.self.now c.bind_line.result c.bind_line.new.self _ Bind c.in-Bind.is c.bind_line.ensures

pub returns-in-Unbind : goal.returns-in-Unbind
returns-in-Unbind c = at_keyword c.args.tables.now c.args.process c.args.self.now c.unbind_line.result c.args.self.now _ Unbind c.in-Unbind.is c.unbind_line.ensures

pub returns-in-Info : goal.returns-in-Info
returns-in-Info c = at_keyword c.args.tables.now c.args.process c.args.self.now c.info_line.result c.info_line.new.self _ Info c.in-Info.is c.info_line.ensures

pub returns-in-GetParam : goal.returns-in-GetParam
returns-in-GetParam c = at_keyword c.args.tables.now c.args.process c.args.self.now c.getparam_line.result c.getparam_line.new.self _ GetParam c.in-GetParam.is c.getparam_line.ensures

pub returns-in-SetParam : goal.returns-in-SetParam
returns-in-SetParam c = at_keyword c.args.tables.now c.args.process c.args.self.now c.setparam_line.result c.setparam_line.new.self _ SetParam c.in-SetParam.is c.setparam_line.ensures

pub returns-in-Cred : goal.returns-in-Cred
returns-in-Cred c = at_keyword c.args.tables.now c.args.process c.args.self.now c.cred_line.result c.args.self.now _ Cred c.in-Cred.is c.cred_line.ensures

pub returns-in-TestCancel : goal.returns-in-TestCancel
returns-in-TestCancel c = at_keyword c.args.tables.now c.args.process c.args.self.now c.testcancel_line.result c.args.self.now _ TestCancel c.in-TestCancel.is c.testcancel_line.ensures

pub returns-in-Exit : goal.returns-in-Exit
returns-in-Exit c = at_keyword c.args.tables.now c.args.process c.args.self.now c.exit_line.result c.args.self.now _ Exit c.in-Exit.is c.exit_line.ensures

pub returns-in-Close : goal.returns-in-Close
returns-in-Close c = at_keyword c.args.tables.now c.args.process c.args.self.now c.close_line.result c.close_line.new.self _ Close c.in-Close.is c.close_line.ensures

pub returns-in-Dup : goal.returns-in-Dup
returns-in-Dup c = at_keyword c.args.tables.now c.args.process c.args.self.now c.dup_line.result c.dup_line.new.self _ Dup c.in-Dup.is c.dup_line.ensures

pub returns-in-Attach : goal.returns-in-Attach
returns-in-Attach c = at_keyword c.args.tables.now c.args.process c.args.self.now c.attach_line.result c.attach_line.new.self _ Attach c.in-Attach.is c.attach_line.ensures

pub returns-in-Detach : goal.returns-in-Detach
returns-in-Detach c = at_keyword c.args.tables.now c.args.process c.args.self.now c.detach_line.result c.detach_line.new.self _ Detach c.in-Detach.is c.detach_line.ensures

pub returns-in-Open : goal.returns-in-Open
returns-in-Open c = at_keyword c.args.tables.now c.args.process c.args.self.now c.open_line.result c.open_line.new.self _ Open c.in-Open.is c.open_line.ensures

pub returns-in-Await : goal.returns-in-Await
returns-in-Await c = at_keyword c.args.tables.now c.args.process c.args.self.now c.await_line.result c.await_line.new.self _ Await c.in-Await.is c.await_line.ensures

pub returns-in-Pipe : goal.returns-in-Pipe
returns-in-Pipe c = at_keyword c.args.tables.now c.args.process c.args.self.now c.pipe_line.result c.pipe_line.new.self _ Pipe c.in-Pipe.is c.pipe_line.ensures

pub returns-in-Write : goal.returns-in-Write
returns-in-Write c = at_keyword c.args.tables.now c.args.process c.args.self.now c.write_line.result c.write_line.new.self _ Write c.in-Write.is c.write_line.ensures

pub returns-in-Read : goal.returns-in-Read
returns-in-Read c = at_keyword c.args.tables.now c.args.process c.args.self.now c.read_line.result c.read_line.new.self _ Read c.in-Read.is c.read_line.ensures

pub returns-in-PortCreate : goal.returns-in-PortCreate
returns-in-PortCreate c = at_keyword c.args.tables.now c.args.process c.args.self.now c.pcreate_line.result c.pcreate_line.new.self _ PortCreate c.in-PortCreate.is c.pcreate_line.ensures

pub returns-in-Associate : goal.returns-in-Associate
returns-in-Associate c = at_keyword c.args.tables.now c.args.process c.args.self.now c.associate_line.result c.associate_line.new.self _ Associate c.in-Associate.is c.associate_line.ensures

pub returns-in-Dissociate : goal.returns-in-Dissociate
returns-in-Dissociate c = at_keyword c.args.tables.now c.args.process c.args.self.now c.dissociate_line.result c.dissociate_line.new.self _ Dissociate c.in-Dissociate.is c.dissociate_line.ensures

pub returns-in-Get : goal.returns-in-Get
returns-in-Get c = at_keyword c.args.tables.now c.args.process c.args.self.now c.get_line.result c.get_line.new.self _ Get c.in-Get.is c.get_line.ensures

pub returns-in-GetN : goal.returns-in-GetN
returns-in-GetN c = at_keyword c.args.tables.now c.args.process c.args.self.now c.getn_line.result c.getn_line.new.self _ GetN c.in-GetN.is c.getn_line.ensures

pub returns-in-Send : goal.returns-in-Send
returns-in-Send c = at_keyword c.args.tables.now c.args.process c.args.self.now c.send_line.result c.send_line.new.self _ Send c.in-Send.is c.send_line.ensures

pub returns-in-SendN : goal.returns-in-SendN
returns-in-SendN c = at_keyword c.args.tables.now c.args.process c.args.self.now c.sendn_line.result c.sendn_line.new.self _ SendN c.in-SendN.is c.sendn_line.ensures

pub returns-in-Alert : goal.returns-in-Alert
returns-in-Alert c = at_keyword c.args.tables.now c.args.process c.args.self.now c.alert_line.result c.alert_line.new.self _ Alert c.in-Alert.is c.alert_line.ensures

pub returns-in-TimerCreate : goal.returns-in-TimerCreate
returns-in-TimerCreate c = at_keyword c.args.tables.now c.args.process c.args.self.now c.tcreate_line.result c.tcreate_line.new.self _ TimerCreate c.in-TimerCreate.is c.tcreate_line.ensures

pub returns-in-TimerSet : goal.returns-in-TimerSet
returns-in-TimerSet c = at_keyword c.args.tables.now c.args.process c.args.self.now c.tset_line.result c.tset_line.new.self _ TimerSet c.in-TimerSet.is c.tset_line.ensures

pub returns-in-TimerDelete : goal.returns-in-TimerDelete
returns-in-TimerDelete c = at_keyword c.args.tables.now c.args.process c.args.self.now c.tdelete_line.result c.tdelete_line.new.self _ TimerDelete c.in-TimerDelete.is c.tdelete_line.ensures

pub returns-in-Advance : goal.returns-in-Advance
returns-in-Advance c = at_keyword c.args.tables.now c.args.process c.args.self.now c.advance_line.result c.advance_line.new.self _ Advance c.in-Advance.is c.advance_line.ensures

pub returns-in-Interrupt : goal.returns-in-Interrupt
returns-in-Interrupt c = at_keyword c.args.tables.now c.args.process c.args.self.now c.interrupt_line.result c.interrupt_line.new.self _ Interrupt c.in-Interrupt.is c.interrupt_line.ensures

pub returns-in-Kill : goal.returns-in-Kill
returns-in-Kill c = at_keyword c.args.tables.now c.args.process c.args.self.now c.kill_line.result c.kill_line.new.self _ Kill c.in-Kill.is c.kill_line.ensures

pub returns-in-Fork : goal.returns-in-Fork
returns-in-Fork c = at_keyword c.args.tables.now c.args.process c.args.self.now c.fork_line.result c.fork_line.new.self _ Fork c.in-Fork.is c.fork_line.ensures

pub returns-in-Work : goal.returns-in-Work
returns-in-Work c = at_keyword c.args.tables.now c.args.process c.args.self.now c.work_line.result c.work_line.new.self _ Work c.in-Work.is c.work_line.ensures

pub returns-in-Ncd : goal.returns-in-Ncd
returns-in-Ncd c = at_keyword c.args.tables.now c.args.process c.args.self.now c.ncd_line.result c.ncd_line.new.self _ Ncd c.in-Ncd.is c.ncd_line.ensures

pub returns-in-Repeat : goal.returns-in-Repeat
returns-in-Repeat c = at_keyword c.args.tables.now c.args.process c.args.self.now c.repeat_line.result c.repeat_line.new.self _ Repeat c.in-Repeat.is c.repeat_line.ensures

pub returns-in-If : goal.returns-in-If
returns-in-If c = at_keyword c.args.tables.now c.args.process c.args.self.now c.if_line.result c.if_line.new.self _ If c.in-If.is c.if_line.ensures

pub returns-in-End : goal.returns-in-End
returns-in-End c = at_keyword c.args.tables.now c.args.process c.args.self.now c.end_line.result c.args.self.now _ End c.in-End.is c.end_line.ensures
