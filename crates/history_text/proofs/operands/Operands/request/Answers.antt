use Rattle.dk_base.specs.declared.event.What.TheVariants.{Create, Call, Return, Revoke, Bind, Unbind, Info, GetParam, SetParam, Cred, TestCancel, Close, Dup, Attach, Detach, Open, Await, Pipe, Write, Read, PortCreate, Associate, Dissociate, Get, GetN, Send, SendN, Alert, TimerCreate, TimerSet, TimerDelete, Advance, Interrupt, Kill, Exit, Fork, Work, Ncd, Accept, Collect, Got, Found, Done, Woken}
use Rattle.std.proofs.Common.{refl}
use Rattle.history_text.proofs.ByWhat.{at_what, read_at, misspelled_at}
use Rattle.history_text.proofs.operands.Operands.request.Goals as goal

pub returns-in-Create : goal.returns-in-Create
returns-in-Create c = at_what c.args.names.now c.args.process c.args.late c.args.self.now c.create_request.result c.create_request.new.self _ Create c.in-Create.is c.create_request.ensures

pub returns-in-Call : goal.returns-in-Call
returns-in-Call c = at_what c.args.names.now c.args.process c.args.late c.args.self.now c.call_request.result c.call_request.new.self _ Call c.in-Call.is c.call_request.ensures

pub returns-in-Return : goal.returns-in-Return
returns-in-Return c = at_what c.args.names.now c.args.process c.args.late c.args.self.now c.return_request.result c.return_request.new.self _ Return c.in-Return.is c.return_request.ensures

pub returns-in-Revoke : goal.returns-in-Revoke
returns-in-Revoke c = at_what c.args.names.now c.args.process c.args.late c.args.self.now c.fd_request.result c.fd_request.new.self _ Revoke c.in-Revoke.is c.fd_request.ensures

pub returns-in-Bind : goal.returns-in-Bind
returns-in-Bind c = at_what c.args.names.now c.args.process c.args.late c.args.self.now c.fd_request-in-Bind.result c.fd_request-in-Bind.new.self _ Bind c.in-Bind.is c.fd_request-in-Bind.ensures

pub returns-in-Unbind : goal.returns-in-Unbind
returns-in-Unbind c = read_at c.args.names.now c.args.process c.args.late c.args.self.now _ _ Unbind c.in-Unbind.is (λ rest. refl)

pub returns-in-Info : goal.returns-in-Info
returns-in-Info c = at_what c.args.names.now c.args.process c.args.late c.args.self.now c.info_request.result c.info_request.new.self _ Info c.in-Info.is c.info_request.ensures

pub returns-in-GetParam : goal.returns-in-GetParam
returns-in-GetParam c = at_what c.args.names.now c.args.process c.args.late c.args.self.now c.getparam_request.result c.getparam_request.new.self _ GetParam c.in-GetParam.is c.getparam_request.ensures

pub returns-in-SetParam : goal.returns-in-SetParam
returns-in-SetParam c = at_what c.args.names.now c.args.process c.args.late c.args.self.now c.setparam_request.result c.setparam_request.new.self _ SetParam c.in-SetParam.is c.setparam_request.ensures

pub returns-in-Cred : goal.returns-in-Cred
returns-in-Cred c = read_at c.args.names.now c.args.process c.args.late c.args.self.now _ _ Cred c.in-Cred.is (λ rest. refl)

pub returns-in-TestCancel : goal.returns-in-TestCancel
returns-in-TestCancel c = read_at c.args.names.now c.args.process c.args.late c.args.self.now _ _ TestCancel c.in-TestCancel.is (λ rest. refl)

pub returns-in-Close : goal.returns-in-Close
returns-in-Close c = at_what c.args.names.now c.args.process c.args.late c.args.self.now c.fd_request-in-Close.result c.fd_request-in-Close.new.self _ Close c.in-Close.is c.fd_request-in-Close.ensures

pub returns-in-Dup : goal.returns-in-Dup
returns-in-Dup c = at_what c.args.names.now c.args.process c.args.late c.args.self.now c.fd_request-in-Dup.result c.fd_request-in-Dup.new.self _ Dup c.in-Dup.is c.fd_request-in-Dup.ensures

pub returns-in-Attach : goal.returns-in-Attach
returns-in-Attach c = at_what c.args.names.now c.args.process c.args.late c.args.self.now c.attach_request.result c.attach_request.new.self _ Attach c.in-Attach.is c.attach_request.ensures

pub returns-in-Detach : goal.returns-in-Detach
returns-in-Detach c = at_what c.args.names.now c.args.process c.args.late c.args.self.now c.path_request.result c.path_request.new.self _ Detach c.in-Detach.is c.path_request.ensures

pub returns-in-Open : goal.returns-in-Open
returns-in-Open c = at_what c.args.names.now c.args.process c.args.late c.args.self.now c.path_request-in-Open.result c.path_request-in-Open.new.self _ Open c.in-Open.is c.path_request-in-Open.ensures

pub returns-in-Await : goal.returns-in-Await
returns-in-Await c = at_what c.args.names.now c.args.process c.args.late c.args.self.now c.path_request-in-Await.result c.path_request-in-Await.new.self _ Await c.in-Await.is c.path_request-in-Await.ensures

pub returns-in-Pipe : goal.returns-in-Pipe
returns-in-Pipe c = read_at c.args.names.now c.args.process c.args.late c.args.self.now _ _ Pipe c.in-Pipe.is (λ rest. refl)

pub returns-in-Write : goal.returns-in-Write
returns-in-Write c = at_what c.args.names.now c.args.process c.args.late c.args.self.now c.write_request.result c.write_request.new.self _ Write c.in-Write.is c.write_request.ensures

pub returns-in-Read : goal.returns-in-Read
returns-in-Read c = at_what c.args.names.now c.args.process c.args.late c.args.self.now c.read_request.result c.read_request.new.self _ Read c.in-Read.is c.read_request.ensures

pub returns-in-PortCreate : goal.returns-in-PortCreate
returns-in-PortCreate c = read_at c.args.names.now c.args.process c.args.late c.args.self.now _ _ PortCreate c.in-PortCreate.is (λ rest. refl)

pub returns-in-Associate : goal.returns-in-Associate
returns-in-Associate c = at_what c.args.names.now c.args.process c.args.late c.args.self.now c.associate_request.result c.associate_request.new.self _ Associate c.in-Associate.is c.associate_request.ensures

pub returns-in-Dissociate : goal.returns-in-Dissociate
returns-in-Dissociate c = at_what c.args.names.now c.args.process c.args.late c.args.self.now c.dissociate_request.result c.dissociate_request.new.self _ Dissociate c.in-Dissociate.is c.dissociate_request.ensures

pub returns-in-Get : goal.returns-in-Get
returns-in-Get c = at_what c.args.names.now c.args.process c.args.late c.args.self.now c.get_request.result c.get_request.new.self _ Get c.in-Get.is c.get_request.ensures

pub returns-in-GetN : goal.returns-in-GetN
returns-in-GetN c = at_what c.args.names.now c.args.process c.args.late c.args.self.now c.getn_request.result c.getn_request.new.self _ GetN c.in-GetN.is c.getn_request.ensures

pub returns-in-Send : goal.returns-in-Send
returns-in-Send c = at_what c.args.names.now c.args.process c.args.late c.args.self.now c.send_request.result c.send_request.new.self _ Send c.in-Send.is c.send_request.ensures

pub returns-in-SendN : goal.returns-in-SendN
returns-in-SendN c = at_what c.args.names.now c.args.process c.args.late c.args.self.now c.sendn_request.result c.sendn_request.new.self _ SendN c.in-SendN.is c.sendn_request.ensures

pub returns-in-Alert : goal.returns-in-Alert
returns-in-Alert c = at_what c.args.names.now c.args.process c.args.late c.args.self.now c.alert_request.result c.alert_request.new.self _ Alert c.in-Alert.is c.alert_request.ensures

pub returns-in-TimerCreate : goal.returns-in-TimerCreate
returns-in-TimerCreate c = at_what c.args.names.now c.args.process c.args.late c.args.self.now c.tcreate_request.result c.tcreate_request.new.self _ TimerCreate c.in-TimerCreate.is c.tcreate_request.ensures

pub returns-in-TimerSet : goal.returns-in-TimerSet
returns-in-TimerSet c = at_what c.args.names.now c.args.process c.args.late c.args.self.now c.tset_request.result c.tset_request.new.self _ TimerSet c.in-TimerSet.is c.tset_request.ensures

pub returns-in-TimerDelete : goal.returns-in-TimerDelete
returns-in-TimerDelete c = at_what c.args.names.now c.args.process c.args.late c.args.self.now c.tdelete_request.result c.tdelete_request.new.self _ TimerDelete c.in-TimerDelete.is c.tdelete_request.ensures

pub returns-in-Advance : goal.returns-in-Advance
returns-in-Advance c = at_what c.args.names.now c.args.process c.args.late c.args.self.now c.advance_request.result c.advance_request.new.self _ Advance c.in-Advance.is c.advance_request.ensures

pub returns-in-Interrupt : goal.returns-in-Interrupt
returns-in-Interrupt c = at_what c.args.names.now c.args.process c.args.late c.args.self.now c.interrupt_request.result c.interrupt_request.new.self _ Interrupt c.in-Interrupt.is c.interrupt_request.ensures

pub returns-in-Kill : goal.returns-in-Kill
returns-in-Kill c = at_what c.args.names.now c.args.process c.args.late c.args.self.now c.kill_request.result c.kill_request.new.self _ Kill c.in-Kill.is c.kill_request.ensures

pub returns-in-Exit : goal.returns-in-Exit
returns-in-Exit c = read_at c.args.names.now c.args.process c.args.late c.args.self.now _ _ Exit c.in-Exit.is (λ rest. refl)

pub returns-in-Fork : goal.returns-in-Fork
returns-in-Fork c = at_what c.args.names.now c.args.process c.args.late c.args.self.now c.fork_request.result c.fork_request.new.self _ Fork c.in-Fork.is c.fork_request.ensures

pub returns-in-Work : goal.returns-in-Work
returns-in-Work c = misspelled_at c.args.names.now c.args.process c.args.late c.args.self.now _ Work c.in-Work.is (λ rest. refl)

pub returns-in-Ncd : goal.returns-in-Ncd
returns-in-Ncd c = misspelled_at c.args.names.now c.args.process c.args.late c.args.self.now _ Ncd c.in-Ncd.is (λ rest. refl)

pub returns-in-Accept : goal.returns-in-Accept
returns-in-Accept c = misspelled_at c.args.names.now c.args.process c.args.late c.args.self.now _ Accept c.in-Accept.is (λ rest. refl)

pub returns-in-Collect : goal.returns-in-Collect
returns-in-Collect c = misspelled_at c.args.names.now c.args.process c.args.late c.args.self.now _ Collect c.in-Collect.is (λ rest. refl)

pub returns-in-Got : goal.returns-in-Got
returns-in-Got c = misspelled_at c.args.names.now c.args.process c.args.late c.args.self.now _ Got c.in-Got.is (λ rest. refl)

pub returns-in-Found : goal.returns-in-Found
returns-in-Found c = misspelled_at c.args.names.now c.args.process c.args.late c.args.self.now _ Found c.in-Found.is (λ rest. refl)

pub returns-in-Done : goal.returns-in-Done
returns-in-Done c = misspelled_at c.args.names.now c.args.process c.args.late c.args.self.now _ Done c.in-Done.is (λ rest. refl)

pub returns-in-Woken : goal.returns-in-Woken
returns-in-Woken c = misspelled_at c.args.names.now c.args.process c.args.late c.args.self.now _ Woken c.in-Woken.is (λ rest. refl)
