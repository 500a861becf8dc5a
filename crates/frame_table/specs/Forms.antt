-- The forms of document 01 and of cards 8 and 11 by name.
use Rattle.frame_table.specs.declared.table.RequestForm.TheVariants as request
use Rattle.frame_table.specs.declared.table.ReplyForm.TheVariants as reply
use Rattle.frame_table.specs.declared.table.Form.{Form}
use Rattle.frame_table.specs.declared.table.Form.TheVariants.{Request, Reply}

abbrev pub UploadOpening : Form
UploadOpening = Request request.UploadOpening

abbrev pub DownloadOpening : Form
DownloadOpening = Request request.DownloadOpening

abbrev pub UploadTransfer : Form
UploadTransfer = Request request.UploadTransfer

abbrev pub DownloadTransfer : Form
DownloadTransfer = Request request.DownloadTransfer

abbrev pub Receipt : Form
Receipt = Request request.Receipt

abbrev pub Signing : Form
Signing = Request request.Signing

abbrev pub ChosenOpening : Form
ChosenOpening = Request request.ChosenOpening

abbrev pub UploadOpened : Form
UploadOpened = Reply reply.UploadOpened

abbrev pub DownloadOpened : Form
DownloadOpened = Reply reply.DownloadOpened

abbrev pub SegmentTaken : Form
SegmentTaken = Reply reply.SegmentTaken

abbrev pub DownloadSegment : Form
DownloadSegment = Reply reply.DownloadSegment

abbrev pub ReceiptAnswered : Form
ReceiptAnswered = Reply reply.ReceiptAnswered

abbrev pub Unreadable : Form
Unreadable = Reply reply.Unreadable

abbrev pub Refusal : Form
Refusal = Reply reply.Refusal
