mod Each
mod Content
mod Marks
mod Numbers
mod Parents
mod NetsDecided
